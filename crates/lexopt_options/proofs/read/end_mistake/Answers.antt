use Rattle.std.proofs.Common.{ap, length, subst, sym, ◌∙◌, ◌<◌, ◌≤◌}
use Rattle.std.proofs.lemmas.Bool.{false≢true}
use Rattle.lexopt_options.specs.Declarations.{declaration_of, options_of, positionals_of}
use Rattle.lexopt_options.specs.Keys.{parsed_words}
use Rattle.lexopt_options_spec.specs.Declaration.{has}
use Rattle.lexopt_options_spec.specs.Legal.{IsWithin, most}
use Rattle.lexopt_options_spec.specs.Places.{least}
use Rattle.lexopt_options_spec.specs.Stops.{required_placeholder}
use Rattle.lexopt_options.proofs.Seen.{none_apart, none_required}
use Rattle.lexopt_options.proofs.TakenWords.{all_taken}
use Rattle.lexopt_options.proofs.WholeLines.{excludes_option, lacks_argument, lacks_option, refuses_word}
use Rattle.lexopt_options.proofs.read.end_mistake.Goals as goal

pub returns-then-is_complete : goal.returns-then-is_complete
returns-then-is_complete g c = λ counted within.
    let o = c.args.options.now in
    let d = declaration_of o in
    let complete = c.is_complete.ensures.0 c.if-is_complete.true in
    record {
      enough = subst (λ n. least d.positionals ≤ n) counted complete.0;
      taken = all_taken (positionals_of o) (parsed_words c.args.parsed.now) complete.1 (subst (λ n. IsWithin n (most d.positionals)) counted within);
      all = λ i needed. absurd (false≢true (sym (none_required (options_of o) i complete.2) ∙ needed));
      apart = none_apart (options_of o) (λ i. has i c.args.seen.now) complete.3;
    }

pub returns-then-count-least : goal.returns-then-count-least
returns-then-count-least g c = λ counted within.
    let d = declaration_of c.args.options.now in
    let words = parsed_words c.args.parsed.now in
    lacks_argument d words c.args.seen.now c.argument_placeholder-placeholder.result
    (subst (λ n. n < least d.positionals) counted (subst (λ n. c.args.count < n) c.least.ensures c.if-count-least.true))
    (c.argument_placeholder-placeholder.ensures ∙ ap (λ ps. required_placeholder ps c.args.count) c.positionals.ensures.view ∙ ap (required_placeholder d.positionals) counted)

pub returns-in-Some : goal.returns-in-Some
returns-in-Some g c = λ counted within.
    let d = declaration_of c.args.options.now in
    let words = parsed_words c.args.parsed.now in
    let enough : least d.positionals ≤ length words = subst (λ n. n ≤ length words) c.least.ensures (subst (λ n. c.least.result ≤ n) counted c.if-count-least.false) in
    let refused = rw c.in-Some.is at c.in_ok-mistake.ensures (subst (λ n. IsWithin n (most d.positionals)) counted within) in
    refuses_word d words c.args.seen.now c.in-Some.mistake refused.0 refused.1 enough refused.2 refused.3

pub returns-in-Some-missing_option : goal.returns-in-Some-missing_option
returns-in-Some-missing_option g c = λ counted within.
    let d = declaration_of c.args.options.now in
    let words = parsed_words c.args.parsed.now in
    let enough : least d.positionals ≤ length words = subst (λ n. n ≤ length words) c.least.ensures (subst (λ n. c.least.result ≤ n) counted c.if-count-least.false) in
    let taken = rw c.in_default.is at c.in_ok-mistake.ensures (subst (λ n. IsWithin n (most d.positionals)) counted within) in
    let lacking = c.in-Some-missing_option.ensures in
    lacks_option d words c.args.seen.now c.in-Some-missing_option.names lacking.0 enough taken lacking.1 lacking.2

pub returns-in-Some-exclusive_options : goal.returns-in-Some-exclusive_options
returns-in-Some-exclusive_options g c = λ counted within.
    let d = declaration_of c.args.options.now in
    let words = parsed_words c.args.parsed.now in
    let enough : least d.positionals ≤ length words = subst (λ n. n ≤ length words) c.least.ensures (subst (λ n. c.least.result ≤ n) counted c.if-count-least.false) in
    let taken = rw c.in_default.is at c.in_ok-mistake.ensures (subst (λ n. IsWithin n (most d.positionals)) counted within) in
    let all = rw c.in_default-missing_option.is at c.missing_option.ensures in
    let found = c.in-Some-exclusive_options.ensures in
    excludes_option d words c.args.seen.now c.in-Some-exclusive_options.names c.in-Some-exclusive_options.others found.0 found.1 enough taken all found.2 found.3 found.4

pub returns-in-None : goal.returns-in-None
returns-in-None g c = λ counted within.
    let d = declaration_of c.args.options.now in
    let words = parsed_words c.args.parsed.now in
    record {
      enough = subst (λ n. n ≤ length words) c.least.ensures (subst (λ n. c.least.result ≤ n) counted c.if-count-least.false);
      taken = rw c.in_default.is at c.in_ok-mistake.ensures (subst (λ n. IsWithin n (most d.positionals)) counted within);
      all = rw c.in_default-missing_option.is at c.missing_option.ensures;
      apart = c.in-None.ensures;
    }
