use Rattle.std.proofs.Common.{ap, true, ◌∙◌}
use Rattle.clap.specs.Simple.{App, app_of_fields}
use Rattle.words.proofs.reading.top.Goals as goal

pub returns : goal.returns
returns c =
    let set = λ (a : App). let b : App = record a {
      top = record a.top {
        no_binary_name = true;
        disable_help_flag = true;
        disable_help_subcommand = true;
        disable_version_flag = true;
        subcommand_required = true;
      };
    } in b in
    let fields = rw (c.disable_version_flag.ensures, c.disable_help_subcommand.ensures, c.disable_help_flag.ensures, c.no_binary_name.ensures) at c.subcommand_required.ensures in
    ap app_of_fields fields ∙ ap set c.new.ensures.app
