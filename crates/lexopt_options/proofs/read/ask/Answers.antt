use Rattle.std.proofs.Common.{◌≡◌, ◌++◌, ◌∷◌, [], List, None, refl, string_bytes, subst, sym}
use Rattle.lexopt_spec.specs.Steps.{Next}
use Rattle.lexopt_line_spec.specs.Readings.{start}
use Rattle.lexopt_options_spec.specs.Asking.{first_asked}
use Rattle.lexopt_options_spec.specs.Legal as legal
use Rattle.lexopt_options_spec.specs.Stops as stops
use Rattle.lexopt_options_spec.proofs.Listed.{accepted_append}
use Rattle.lexopt_base.specs.Refusals.{refusal_reply}
use Rattle.lexopt_options.specs.Declarations.{declaration_of, options_of}
use Rattle.lexopt_options.specs.Keys.{AreParsedAs}
use Rattle.lexopt_options.proofs.ReadKeys.{asks_alone, one_unrefused}
use Rattle.lexopt_options.proofs.ReadNext.{never_missing, one_more}
use Rattle.lexopt_options.proofs.WholeLines.{last_dropped}
use Rattle.lexopt_options.proofs.read.ask.Goals as goal

pub returns-in-Ok : goal.returns-in-Ok
returns-in-Ok g c = λ words begins u count seen parsed s had reads counts_is unrefused asks.
    let d = declaration_of c.args.options.now in
    record {
      before = had.l;
      parsed = s;
      there = c.args.parser.now;
      read = one_more d (start d.short_equals words) u c.args.parser.now had.l count s had.read had.counted reads;
      none_before = had.none;
      accepted = accepted_append d.options had.l (s ∷ []) had.accepted (one_unrefused d.options s unrefused);
      asks = asks;
      no_value = λ o x v step. asks_alone c.args.parser.now c.advance.new.self c.in-Ok.field-0 c.in-Ok.ensures o x v step;
    }

pub returns-in-UnexpectedValue : goal.returns-in-UnexpectedValue
returns-in-UnexpectedValue g c = λ words begins u count seen parsed s had reads counts_is unrefused asks.
    let d = declaration_of c.args.options.now in
    let step = subst (λ r. Next c.args.parser.now (refusal_reply r) c.advance.new.self) c.in-UnexpectedValue.is c.in-Err.ensures in (
      record {
        why = stops.unexpected_value (string_bytes c.in-UnexpectedValue.option) c.in-UnexpectedValue.value;
        told = refl;
        read = had.l ++ s ∷ [];
        stops = record {
          there = c.args.parser.now;
          read = one_more d (start d.short_equals words) u c.args.parser.now had.l count s had.read had.counted reads;
          stops = stops.value_of_flag (string_bytes c.in-UnexpectedValue.option) c.in-UnexpectedValue.value c.advance.new.self step;
          accepted = accepted_append d.options had.l (s ∷ []) had.accepted (one_unrefused d.options s unrefused);
        };
        own = subst (λ (m : List legal.Parsed). first_asked d.options m ≡ None) (sym (last_dropped had.l s)) had.none;
        before = subst (λ (m : List legal.Parsed). AreParsedAs (options_of c.args.options.now) m parsed) (sym (last_dropped had.l s)) had.are;
        firsts = had.firsts;
      },
      tt,
    )

pub unreachable-requires : goal.unreachable-requires
unreachable-requires g c =
    never_missing c.args.parser.now c.advance.new.self c.in-MissingValue.field-0 (subst (λ r. Next c.args.parser.now (refusal_reply r) c.advance.new.self) c.in-MissingValue.is c.in-Err.ensures)
