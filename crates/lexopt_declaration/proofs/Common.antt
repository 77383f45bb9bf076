-- The names that the proofs of this crate cite most, passed on from one place. Declares nothing.
pub use Rattle.std.proofs.Common.{Bool, Bor, List, None, Option, Some, [], add-one, ap, append-nil, append_assoc, arith, codes, cond, drop, drop-cons, false, filter, flat_map, get_or, if◌then◌else◌}
pub use Rattle.std.proofs.Common.{inl, inr, length, length-append, map, map-id, min, nat_eq, nat_lt, not, option_map, position, refl, rules, string_bytes, subst, suc, sym, take, tests, true}
pub use Rattle.std.proofs.Common.{true≢false, ℕ, ⊎_elim, ◌&&◌, ◌++◌, ◌+◌, ◌-◌, ◌<◌, ◌==◌, ◌||◌, ◌∙◌, ◌∷◌, ◌≡◌, ◌≢◌, ◌≤◌, ◌⊎◌}
pub use Rattle.std.proofs.Output.{has_written_append, has_written_of_eq}
pub use Rattle.std.proofs.lemmas.Bool.{cases_lt, false≢true}
pub use Rattle.std.proofs.lemmas.Grind.{common_steps, get_or_default_zero}
pub use Rattle.std.proofs.lemmas.Iterator.{YieldsList-from_chars, YieldsList-from_slice, YieldsList-from_take, items_from_collect}
pub use Rattle.std.proofs.lemmas.Iterator.Consumers.{YieldsList-at, YieldsList-end, YieldsList-from_copied, YieldsList-from_filter}
pub use Rattle.std.proofs.lemmas.List.{flat_map_more, get_or_append_left, get_or_push, length-map, length-take-le, map-append, map_more, take-map, take_all, take_more}
pub use Rattle.std.proofs.lemmas.List.Elements.{filter-append}
pub use Rattle.std.proofs.lemmas.List.Folds.{list_any-append}
pub use Rattle.std.proofs.lemmas.Result.{IfOk-weaker}
pub use Rattle.std.specs.Fmt.{HasWritten, IsPlainFormatter}
pub use Rattle.std.specs.List.{ends_with, filter_map, list_any, position_or_len, starts_with}
pub use Rattle.std.specs.Option.{option_to_list}
pub use Rattle.lexopt_declaration.specs.Candidates.{IsBest}
pub use Rattle.lexopt_declaration.specs.Models.{AreAllText, count_view, long_name, names_list, option_view, positional_view, short_name, spelling_view}
pub use Rattle.lexopt_declaration.specs.Rows.{IsNearDistance, IsRow, IsRowBefore, IsSwap, IsWholeRow}
pub use Rattle.lexopt_declaration.specs.Scripts.{script_character, variable_byte}
pub use Rattle.lexopt_declaration.specs.Texts.{name_in_quotes, on_one_line}
pub use Rattle.lexopt_declaration.specs.declared.declaration.Declared.{Declared}
pub use Rattle.lexopt_line_spec.proofs.Lists.{list_any-map}
pub use Rattle.lexopt_options_spec.proofs.Sound.{either}
pub use Rattle.lexopt_options_spec.specs.Completion.{AreText, IsText, Spelled, is_offered, offered, spelled, spellings}
pub use Rattle.lexopt_options_spec.specs.Declaration.{has_name, has_to_occur, is_name, is_one_of, may_repeat}
pub use Rattle.lexopt_options_spec.specs.Help.{escaped_text}
pub use Rattle.lexopt_options_spec.specs.Nearest.{IsDistance, IsNear, IsNearAt, IsNearest, beginning, if_one, long_names}
pub use Rattle.lexopt_options_spec.specs.Stops.{required_placeholder}
pub use Rattle.lexopt_spec.specs.Text.{escaped}
