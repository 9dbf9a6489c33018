use Rattle.std.proofs.Common.{refl}
use Rattle.std.proofs.lemmas.Str.{is_utf8-from_IsUtf8}
use Rattle.release_json.proofs.revisions.attached_with.Goals as goal

pub returns : goal.returns
returns c = rw (is_utf8-from_IsUtf8 c.args.text.now c.utf8.text, c.in_ok-of.ensures, c.as_bytes.ensures.value) refl
