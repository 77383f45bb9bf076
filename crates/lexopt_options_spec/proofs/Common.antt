-- The names that the proofs of this crate cite most, passed on from one place. Declares nothing.
pub use Rattle.std.proofs.Common.{Bool, List, None, Option, Some, [], add-one, ap, append-nil, append_assoc, arith, codes, cond, drop, encode_utf8, eqb, false, filter, get_or, get_or-take}
pub use Rattle.std.proofs.Common.{if◌then◌else◌, inl, inr, is_none, length, length-append, length-drop, length-take-le, map, max, min, nat_eq, nat_lt, not, option_and_then, position, refl, replicate}
pub use Rattle.std.proofs.Common.{reverse, slice_get, slice_index_or, subst, suc, sym, take, take-take, take_all, true, true≢false, unwrap_or, zero, ℕ, ⊎_elim, ◌&&◌, ◌++◌, ◌+◌, ◌-◌, ◌<◌, ◌==◌, ◌||◌}
pub use Rattle.std.proofs.Common.{◌↔◌, ◌∙◌, ◌∷◌, ◌≡◌, ◌≢◌, ◌≤◌, ◌⊎◌}
pub use Rattle.std.proofs.lemmas.Bool.{and_from, and_parts, cases_lt, cases_order, eq-eqb, eqb-false, eqb-true, false_from_ne_true, false≢true, lt-ltb, not-true, or_cases, or_left, or_parts, or_right}
pub use Rattle.std.proofs.lemmas.Bool.Decides.{Decides-eqb, eqb_tells}
pub use Rattle.std.proofs.lemmas.List.{append_cancel_left, append_cancel_right, length-map, length-replicate, map-append, map_push, reverse-append, reverse-reverse, take-append-le, take-replicate}
pub use Rattle.std.proofs.lemmas.List.Elements.{All-append, All-cons, All-nil, Contains-append_cases, Contains-append_left, Contains-append_right, filter_map-append}
pub use Rattle.std.proofs.lemmas.List.Folds.{Any-from_list_any, list_any-append, list_any_at}
pub use Rattle.std.proofs.lemmas.List.Sums.{sum_by-cons}
pub use Rattle.std.proofs.lemmas.Option.{get_or_from_slice_get, same_Some, slice_get_within}
pub use Rattle.std.specs.Char.{IsScalar}
pub use Rattle.std.specs.Cmp.Lexicographic.{pointwise, same_text}
pub use Rattle.std.specs.List.{AllZip, Contains, filter_map, list_all, list_any, position_or_len, starts_with, sum_by}
pub use Rattle.std.specs.Option.{option_map, option_to_list}
pub use Rattle.std.specs.Str.{IsUtf8, chars}
pub use Rattle.lexopt_line_spec.proofs.Exact.{next_same}
pub use Rattle.lexopt_line_spec.proofs.FullValues.{FullStep, attached_first, full_step, joined_one, nothing_given, words_alone}
pub use Rattle.lexopt_line_spec.proofs.HandedItems.{HandedItems, hands_nothing, hands_pending, hands_words, optional_hands, value_hands, values_hands}
pub use Rattle.lexopt_line_spec.proofs.ItemsRead.{one_line_left, one_more_item, option_given, says_items}
pub use Rattle.lexopt_line_spec.proofs.Names.{encoded, shorter, shown_spells, spelled_shows}
pub use Rattle.lexopt_line_spec.proofs.OneReading.{no_other_reading, option_reading, some_reading, with_memory}
pub use Rattle.lexopt_line_spec.proofs.OptionalLaw.{none_tail}
pub use Rattle.lexopt_line_spec.proofs.ReadingSteps.{reads_last, reads_refused, says_positional}
pub use Rattle.lexopt_line_spec.proofs.RunAccounts.{step_line}
pub use Rattle.lexopt_line_spec.proofs.WholeLines.{said_shows, shown_read, shown_said}
pub use Rattle.lexopt_line_spec.specs.Readings.{AskedAfter, GoesOn, IsDue, IsFull, IsReading, ReadsFirst, ReadsItems, first_flag, first_one, first_optional, first_positional, first_several}
pub use Rattle.lexopt_line_spec.specs.Readings.{item_after, items_of_replies, last, more, option_reply, start}
pub use Rattle.lexopt_line_spec.specs.Speller.{IsOf}
pub use Rattle.lexopt_line_spec.specs.Spelling.{Spells}
pub use Rattle.lexopt_line_spec.specs.Table.{Item, Kind, Name, Table, flag, kind, long, many, one, optional, several, short}
pub use Rattle.lexopt_options_spec.specs.Completion.{AreText, CanBeTaken, EndsWith, Extends, HasRole, IsOpen, IsText, Role, argument, role_of, value}
pub use Rattle.lexopt_options_spec.specs.Declaration.{Beside, Count, Declaration, Declared, Positional, Reason, Words, a_flag, accepts, all_names, any_number, are_listable, at_least_once}
pub use Rattle.lexopt_options_spec.specs.Declaration.{at_most_once, bad_list, has_name, has_to_occur, index_of, is_blank_or_control, is_listable, is_name, is_one_of, is_placeholder, is_sound}
pub use Rattle.lexopt_options_spec.specs.Declaration.{list_fault, listed, may_repeat, name_fault, names_fault, names_of, once, placeholder_fault, table}
pub use Rattle.lexopt_options_spec.specs.Help.{LabelForm, flag_beside, long_flag, long_one, long_optional, long_optional_value, long_several, negated_flag, short_flag, short_one, short_optional}
pub use Rattle.lexopt_options_spec.specs.Help.{short_optional_value, short_several}
pub use Rattle.lexopt_options_spec.specs.Legal.{IsWithin, Means, MeansFront, Parsed, are_accepted, counts, is_option, most, occurs, parsed_item, positional, positional_count, positional_words}
pub use Rattle.lexopt_options_spec.specs.Legal.{clash}
pub use Rattle.lexopt_options_spec.specs.Legal.{refused_value}
pub use Rattle.lexopt_options_spec.specs.Places.{AreFirst, ArePlaces, AreShares, AreTaken, CanTake, IsNotTaken, NoneSpare, extra, greedy, has_room, least, needs, owners, refused_word, required}
pub use Rattle.lexopt_options_spec.specs.Places.{takes_at}
pub use Rattle.lexopt_options_spec.specs.States.{LeadsNowhere, Leaves, Says, SaysOpenly, State, is_full, leaves_anything, leaves_due, leaves_ended, leaves_first, leaves_further, opens, role_in, room}
pub use Rattle.lexopt_options_spec.specs.States.{state_at_end}
pub use Rattle.lexopt_options_spec.specs.Stops.{IsOfOption, Mistake, ReadsUpTo, Stops, StopsAt, invalid_value, missing_value, no_value, not_accepted, not_apart, not_complete, not_declared, not_taken}
pub use Rattle.lexopt_options_spec.specs.Stops.{one_too_many, too_few, unexpected_argument, unexpected_value, unknown_option, value_of_flag}
pub use Rattle.lexopt_spec.specs.Pieces.{lossy_characters, replacement}
pub use Rattle.lexopt_spec.specs.Runs.{Call, Run, Step, StepWithMemory, next}
pub use Rattle.lexopt_spec.specs.Steps.{Next, NextStep, Reply, after_separator, next_word, no_word_left, nothing_to_take, reads_separator, word_left}
pub use Rattle.lexopt_spec.specs.UnreadLine.{BeginsWith, IsLine, IsNormalIn, IsPlain, IsPlainFront, Tail, TailFits, UnreadLine, dash, equals, no_tail, pending, pending_in, rest_of, spelling}
pub use Rattle.lexopt_spec.specs.Views.{ValuesStep, available, available_with, no_values, plain_front, some_values, without}
