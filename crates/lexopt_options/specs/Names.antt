-- A name that was typed, as contracts see it.
use Rattle.std.specs.Prelude.{string_bytes}
use Rattle.lexopt_line_spec.specs.Table.{Name, short, long}
use Rattle.lexopt_options.specs.declared.mistake.OptionName.{OptionName}
use Rattle.lexopt_options.specs.declared.mistake.OptionName.TheVariants.{Short, Long}

abbrev pub name_view : OptionName → Name
name_view (Short c) = short c
name_view (Long name) = long (string_bytes name)
