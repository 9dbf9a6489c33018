-- The members of an object, one more at a time.
use Rattle.std.proofs.Common.{◌≡◌, List, String, Global, string_bytes, string_cmp, ap, ◌∙◌}
use Rattle.std.specs.BTreeMap.{insert_entry}
use Rattle.serde_json.specs.Data.{put}
use Rattle.serde_json.specs.View.{view, members_view}
use Rattle.serde_json.specs.declared.value.Value.{Value}
use Rattle.serde_json.proofs.Views.{Entry, members_view-insert_entry}

-- what is inserted is put at its key
pub put_member : (before after : List Entry) (k : String Global) (v : Value) → after ≡ insert_entry string_cmp before k v → members_view after ≡ put (string_bytes k) (view v) (members_view before)
put_member before after k v is = ap members_view is ∙ members_view-insert_entry before k v
