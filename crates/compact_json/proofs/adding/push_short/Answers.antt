use Rattle.std.proofs.Common.{◌∷◌, ◌++◌, length, ap, ◌∙◌, append-nil}
use Rattle.std.proofs.lemmas.Result.{on_ok_weaker}
use Rattle.compact_json.proofs.BoxLaws.{short_box}
use Rattle.compact_json.proofs.adding.push_short.Goals as goal

pub returns : goal.returns
returns c =
    let b = c.args.byte in
    let s = c.args.text.now in
    on_ok_weaker c.push_all.result (λ e. record {
      added = b ∷ length s ∷ s;
      longer = e ∙ ap (λ t. c.args.out.now.items ++ b ∷ length s ∷ t) (append-nil s);
      is_box = short_box b s c.requires.kind.0 c.requires.kind.1;
    }) c.push_all.ensures.ok
