-- How characters between double quotes are shown.
use Rattle.std.specs.Prelude.{ℕ, List}
use Rattle.lexopt_spec.specs.Text.{quoted_character, visible_character}
use Rattle.lexopt_words.specs.declared.quoted.Form.{Form}
use Rattle.lexopt_words.specs.declared.quoted.Form.TheVariants.{Quoted, Visible}

abbrev pub form_of : Form → ℕ → List ℕ → List ℕ
form_of Quoted = quoted_character
form_of Visible = visible_character
