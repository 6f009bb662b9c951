-- What the parser is told: it takes three words, of which the first must be there, and no options.
use Rattle.std.specs.Prelude.{codes, true}
use Rattle.clap.specs.Words.{App, Shape, Rule, new_app, new_rule, with_rule}
use Rattle.clap.specs.Simple.{on_top}

abbrev pub without_flags : Shape → Shape
without_flags s = record s { no_binary_name = true; disable_help_flag = true; disable_version_flag = true }

abbrev pub name_rule : Rule
name_rule = record (new_rule (codes "name")) { required = true }

abbrev pub parser : App
parser = with_rule (with_rule (with_rule (on_top without_flags (new_app (codes "cmm2"))) name_rule) (new_rule (codes "start"))) (new_rule (codes "size"))
