use Rattle.std.proofs.Common.{◌≡◌, ◌<◌, ◌^◌, [], ◌∷◌, ◌++◌, length, w32, ap, ◌∙◌, arith, append-nil}
use Rattle.std.specs.Int.{to_le_bytes}
use Rattle.std.proofs.lemmas.Result.{on_ok_weaker}
use Rattle.compact_json.proofs.BoxLaws.{long_box_of}
use Rattle.compact_json.proofs.adding.push_long.Goals as goal

pub returns-in-Ok : goal.returns-in-Ok
returns-in-Ok c =
    let b = c.args.byte in
    let s = c.args.text.now in
    let size : c.in-Ok.size ≡ length s = grind arith in
    let low : length s < 2 ^ 32 = grind arith in
    on_ok_weaker c.push_all.result (λ e. record {
      added = b ∷ (to_le_bytes w32 (length s) ++ s);
      longer = e ∙ ap (λ r. c.args.out.now.items ++ b ∷ (r ++ (s ++ []))) c.to_le_bytes.ensures
          ∙ ap (λ n. c.args.out.now.items ++ b ∷ (to_le_bytes w32 n ++ (s ++ []))) size
          ∙ ap (λ t. c.args.out.now.items ++ b ∷ (to_le_bytes w32 (length s) ++ t)) (append-nil s);
      is_box = long_box_of b s c.requires low;
    }) c.push_all.ensures.ok
