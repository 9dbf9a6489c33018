use Rattle.std.proofs.Common.{◌≡◌, true, Some, ap}
use Rattle.compact_json.specs.Kept.{is_text}
use Rattle.compact_json.proofs.MemberLaws.{text_passes}
use Rattle.compact_json.proofs.texts.text_of.Goals as goal

pub returns-in-Ok : goal.returns-in-Ok
returns-in-Ok c =
    let ok = c.in-Ok.ensures.cases in
    let is : is_text c.args.bytes.now ≡ true = text_passes c.args.bytes.now ok.1 in
    rw is (ap Some ok.0)
