use Rattle.std.proofs.Common.{ap, sym, ◌∙◌}
use Rattle.matchit.specs.Seek.{first}
use Rattle.matchit.proofs.RenameLemmas.{first-rename}
use Rattle.desk_http.proofs.router.Patterns.name_of.Goals as goal

pub returns : goal.returns
returns c = c.found.ensures ∙ sym (first-rename (λ e. e.value) _ c.args.path.now) ∙ ap (λ rs. first rs c.args.path.now) c.self.invariant
