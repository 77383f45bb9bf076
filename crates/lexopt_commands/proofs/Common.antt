-- The names that the proofs of this crate cite most, passed on from one place. Declares nothing.
pub use Rattle.std.proofs.Common.{Bool, List, None, Option, Some, [], ap, append-nil, append_assoc, arith, codes, false, get_or, if◌then◌else◌, inl, inr, length, map, nat_lt, not, position, refl}
pub use Rattle.std.proofs.Common.{string_bytes, subst, suc, sym, take, true, zero, ℕ, ◌++◌, ◌+◌, ◌<◌, ◌==◌, ◌∙◌, ◌∷◌, ◌≡◌}
pub use Rattle.std.proofs.lemmas.Grind.{common_steps}
pub use Rattle.std.proofs.lemmas.Result.{IfOk-weaker}
pub use Rattle.std.specs.Cmp.Lexicographic.{pointwise}
pub use Rattle.std.specs.List.{flat_map, list_any, position_or_len}
pub use Rattle.std.specs.Prelude.{is_none, slice_get}
pub use Rattle.std.specs.declared.convert.Infallible.{Infallible}
pub use Rattle.lexopt_commands.specs.Completions.{IsPlaced, begun_line, in_command, place}
pub use Rattle.lexopt_commands.specs.Meanings.{command, command_at, command_of, help, meaning, missing, named, named_by, unknown}
pub use Rattle.lexopt_commands.specs.Mistakes.{missing_command, unknown_command}
pub use Rattle.lexopt_commands.specs.Names.{can_be_declared, fault, first_fault, name_fault, names_of, or_else, with_fault}
pub use Rattle.lexopt_commands.specs.declared.command.Command.{Command}
pub use Rattle.lexopt_commands.specs.declared.command.Reason.{Reason}
pub use Rattle.lexopt_declaration.specs.Models.{positional_view}
pub use Rattle.lexopt_line_spec.proofs.Lists.{list_any-map}
pub use Rattle.lexopt_options.specs.Declarations.{declaration_of, options_of, positionals_of}
pub use Rattle.lexopt_options.specs.RestLines.{IsRestRead}
pub use Rattle.lexopt_options_spec.specs.Asking.{first_asked}
pub use Rattle.lexopt_options_spec.specs.Help.{IsEntry, blank, set_apart}
