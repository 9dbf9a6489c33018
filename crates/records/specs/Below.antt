-- The definitions of lower crates that the contracts of this crate cite.
pub use Rattle.release_json.specs.Versions.{HasNoHours}
pub use Rattle.release_json.specs.declared.version.Version.{Version}
pub use Rattle.release_json.specs.declared.version.Version.TheVariants as VersionVariants
