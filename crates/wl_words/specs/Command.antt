-- The command line of `wl` as `clap` knows it: four options with one value each, and one positional word. The words are those after the program's name, and nothing asks for help or for a version. This project's own.
use Rattle.std.specs.Prelude.{ℕ, List, true, Some, codes}
use Rattle.clap.specs.Words.{App, Rule, new_app, new_rule, with_rule}
use Rattle.clap.specs.Simple.{on_top}

-- `--name VALUE`, or `--name=VALUE`
abbrev pub option : List ℕ → Rule
option name = record (new_rule name) { long = Some name }

-- a word that stands alone
abbrev pub positional : List ℕ → Rule
positional name = new_rule name

abbrev pub bare : App
bare = on_top (λ s. record s { no_binary_name = true; disable_help_flag = true; disable_version_flag = true }) (new_app (codes "wl"))

abbrev pub command : App
command =
    with_rule (with_rule (with_rule (with_rule (with_rule bare (option (codes "steps"))) (option (codes "total"))) (option (codes "form"))) (option (codes "demo"))) (positional (codes "file"))
