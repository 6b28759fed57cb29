use Rattle.std.proofs.Common.{ap, true, ◌≡◌, ◌∙◌}
use Rattle.clap.specs.Simple.{app_of_fields, on_top}
use Rattle.clap.specs.Words.{App, Shape, app_of}
use Rattle.teg_words.proofs.simple_command.bare_command.Goals as goal

abbrev no_name : App → App
no_name = on_top (λ (s : Shape). record s { no_binary_name = true })

abbrev no_help : App → App
no_help = on_top (λ (s : Shape). record s { disable_help_flag = true })

abbrev no_version : App → App
no_version = on_top (λ (s : Shape). record s { disable_version_flag = true })

pub returns : goal.returns
returns c =
    let named : app_of c.no_binary_name.result ≡ no_name (app_of c.new.result) = ap app_of_fields c.no_binary_name.ensures in
    let helpless : app_of c.disable_help_flag.result ≡ no_help (app_of c.no_binary_name.result) = ap app_of_fields c.disable_help_flag.ensures in
    let bare : app_of c.disable_version_flag.result ≡ no_version (app_of c.disable_help_flag.result) = ap app_of_fields c.disable_version_flag.ensures in
    bare ∙ ap no_version (helpless ∙ ap no_help (named ∙ ap no_name c.new.ensures.app))
