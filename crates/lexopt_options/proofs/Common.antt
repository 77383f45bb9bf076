-- The names that the proofs of this crate cite most, passed on from one place. Declares nothing.
pub use Rattle.std.proofs.Common.{Bool, Err, Global, IfOk, IsTrue, List, MatchOption, None, Ok, Option, Result, Some, String, Vec, [], ap, append-nil, append_assoc, arith, below_more, cond, drop}
pub use Rattle.std.proofs.Common.{encode_utf8, false, filter, get_or, if◌then◌else◌, inl, inr, is_none, length, length-append, map, nat_eq, not, option_and_then, option_map, position, refl, replicate}
pub use Rattle.std.proofs.Common.{rules, set, slice_get, string_bytes, subst, suc, sym, take, take-append-drop, tests, true, unwrap_or, zero, ℕ, ⊎_elim, ◌&&◌, ◌++◌, ◌+◌, ◌-◌, ◌<◌, ◌==◌, ◌||◌, ◌↔◌}
pub use Rattle.std.proofs.Common.{◌∙◌, ◌∷◌, ◌≡◌, ◌≢◌, ◌≤◌, ◌⊎◌}
pub use Rattle.std.proofs.lemmas.Bool.{and_parts, cases_lt, eq-eqb, eqb-true, false≢true, not-true, or_parts}
pub use Rattle.std.proofs.lemmas.Iterator.{YieldsList-from_slice}
pub use Rattle.std.proofs.lemmas.Iterator.Search.{position_from_yields_List}
pub use Rattle.std.proofs.lemmas.List.{append_cancel_right, at_drop_all, drop_all, drop_more, get_or-map, get_or-set_other, get_or-set_same, get_or_default, length-map, length-take-le}
pub use Rattle.std.proofs.lemmas.List.{nil_from_length, take_more}
pub use Rattle.std.proofs.lemmas.List.Elements.{Contains-append_cases, Contains-append_left, Contains-append_right, Contains-get_or, filter-append}
pub use Rattle.std.proofs.lemmas.List.Quantifiers.{position-Some}
pub use Rattle.std.proofs.lemmas.Option.{get_or_from_slice_get, same_Some, slice_get-get_or, slice_get-map, slice_get_cases, slice_get_read, slice_get_within}
pub use Rattle.std.proofs.lemmas.Result.{IfOk-weaker}
pub use Rattle.std.specs.Borrow.{Bor}
pub use Rattle.std.specs.List.{AllZip, Contains, flat_map, list_any, starts_with}
pub use Rattle.std.specs.Option.{IsSome, is_some, option_eq}
pub use Rattle.std.specs.Str.{IsUtf8}
pub use Rattle.std.specs.declared.alloc.AllocError.{AllocError}
pub use Rattle.lexopt_base.specs.Found.{found_as}
pub use Rattle.lexopt_base.specs.Refusals.{refusal_reply, take_reply}
pub use Rattle.lexopt_base.specs.Replies.{RepliesWith}
pub use Rattle.lexopt_base.specs.declared.parser.Found.{Found}
pub use Rattle.lexopt_base.specs.declared.refusal.Refusal.{Refusal}
pub use Rattle.lexopt_base.specs.declared.refusal.Refusal.TheVariants.{MissingValue, UnexpectedValue}
pub use Rattle.lexopt_declaration.specs.Lookups.{names_at}
pub use Rattle.lexopt_declaration.specs.Models.{kind_of, long_name, option_view, positional_view, short_name, spelling_view, words_view}
pub use Rattle.lexopt_declaration.specs.declared.declaration.Declared.{Declared}
pub use Rattle.lexopt_declaration.specs.declared.declaration.Names.{Names}
pub use Rattle.lexopt_declaration.specs.declared.declaration.Positional.{Positional}
pub use Rattle.lexopt_declaration.specs.declared.declaration.Words.{Words}
pub use Rattle.lexopt_line_spec.proofs.Bounds.{positional_falls}
pub use Rattle.lexopt_line_spec.proofs.RunAccounts.{step_line}
pub use Rattle.lexopt_line_spec.specs.Bound.{bound}
pub use Rattle.lexopt_line_spec.specs.Readings.{ReadsFirst, first_flag, first_one, first_optional, first_positional, first_several, option_reply, start}
pub use Rattle.lexopt_line_spec.specs.Table.{Item, Kind, Name, kind}
pub use Rattle.lexopt_line_spec.specs.Values.{ReadsValues, Values, ValuesEndBy, all, at_most_one, item_with}
pub use Rattle.lexopt_options.specs.Answers.{are_directories, are_files}
pub use Rattle.lexopt_options.specs.Completions.{CanCome, Opens}
pub use Rattle.lexopt_options.specs.Declarations.{declaration_of, options_of, positionals_of}
pub use Rattle.lexopt_options.specs.Keys.{AllFirst, AreParsedAs, CanHaveKeys, HasKey, IsByKey, IsParsedAs, asked_view, is_positional, parsed_words, positional_keys}
pub use Rattle.lexopt_options.specs.Kinds.{kind_at}
pub use Rattle.lexopt_options.specs.Lines.{IsLineOf, IsLineRead, LineMeans}
pub use Rattle.lexopt_options.specs.Mistakes.{AreNames, IsMistake}
pub use Rattle.lexopt_options.specs.Reading.{ReadsParsed, StopsAtOption, UndeclaredNext, parsed_with}
pub use Rattle.lexopt_options.specs.RestLines.{by_all, by_front, early}
pub use Rattle.lexopt_options.specs.RestStarts.{is_separated, start_view}
pub use Rattle.lexopt_options.specs.Roles.{joined_view, place_view}
pub use Rattle.lexopt_options.specs.States.{IsAfterName, IsFront, IsFrontOf, state_view}
pub use Rattle.lexopt_options.specs.Taken.{Fits, has_list}
pub use Rattle.lexopt_options.specs.declared.front.Front.{Front}
pub use Rattle.lexopt_options.specs.declared.front.State.{State}
pub use Rattle.lexopt_options.specs.declared.options.Options.{Options}
pub use Rattle.lexopt_options.specs.declared.refused.Line.{Line}
pub use Rattle.lexopt_options.specs.declared.rest.RestStart.{RestStart}
pub use Rattle.lexopt_options.specs.declared.rest.RestStart.TheVariants.{Separated, Surplus}
pub use Rattle.lexopt_options_spec.proofs.Cuts.{enough}
pub use Rattle.lexopt_options_spec.proofs.Fronts.{one_front, whole_front}
pub use Rattle.lexopt_options_spec.proofs.Listed.{accepted_append}
pub use Rattle.lexopt_options_spec.proofs.Lists.{count_append, joined, last_item, not_empty, same_last}
pub use Rattle.lexopt_options_spec.proofs.Shares.{greedy_are_shares, places_are, some_places}
pub use Rattle.lexopt_options_spec.proofs.States.{front_says, says_front, says_once}
pub use Rattle.lexopt_options_spec.proofs.Taken.{filled, owners_length, places_spare, refused_take, same_within, slice_get_take, words_append, words_count}
pub use Rattle.lexopt_options_spec.specs.Asking.{all_but_last, asked_by, first_asked, parsed_before}
pub use Rattle.lexopt_options_spec.specs.Completion.{AreOwners, AreText, CanBeTaken, CanOwn, HasRole, IsAscending, IsJoined, IsOpen, IsOption, JoinsValue, is_offered, joined_at, list_of, listed_by}
pub use Rattle.lexopt_options_spec.specs.Completion.{offered_values, spelling, spellings, texts, value_of, values_at, words_at}
pub use Rattle.lexopt_options_spec.specs.Declaration.{Declaration, has, has_name, index_of, is_sound, table}
pub use Rattle.lexopt_options_spec.specs.Legal.{IsWithin, Means, MeansFront, Parsed, accepts_at, are_accepted, counts, is_required, most, occurs, parsed_item, positional_count, positional_words}
pub use Rattle.lexopt_options_spec.specs.Legal.{refused_value}
pub use Rattle.lexopt_options_spec.specs.Places.{ArePlaces, AreShares, AreTaken, IsNotTaken, extra, greedy, least, needs, owners, refused_word, takes_at}
pub use Rattle.lexopt_options_spec.specs.States.{LeadsNowhere, Leaves, Says, leaves_anything, leaves_due, leaves_ended, leaves_first, leaves_further, role_in, state_at_end, takes_positional}
pub use Rattle.lexopt_options_spec.specs.Stops.{IsOfOption, Mistake, ReadsUpTo, Stops, invalid_argument, invalid_value, missing_value, not_declared, required_placeholder, unexpected_value}
pub use Rattle.lexopt_options_spec.specs.Stops.{unknown_option, value_of_flag}
pub use Rattle.lexopt_spec.specs.Runs.{Step}
pub use Rattle.lexopt_spec.specs.Steps.{Next, NextStep, OptionalStep, ReadsPositional, ReadsWord, Reply, Value, after_separator, equals_value, joined_value, next_in_cluster, next_word, no_word}
pub use Rattle.lexopt_spec.specs.Steps.{no_word_left, optional_none, optional_pending, reads_cluster, reads_long, reads_positional, reads_separator, unexpected, word_left}
pub use Rattle.lexopt_spec.specs.UnreadLine.{BeginsWith, IsLine, IsNormalIn, IsPlain, LastOption, Tail, UnreadLine, dash, long_option, no_option, pending, pending_in, rest, rest_of, short_option}
pub use Rattle.lexopt_spec.specs.Views.{ValuesStep}
