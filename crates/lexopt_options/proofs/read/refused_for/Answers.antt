use Rattle.std.proofs.Common.{refl, subst, sym}
use Rattle.lexopt_options_spec.specs.Asking.{parsed_before}
use Rattle.lexopt_options.specs.Declarations.{options_of}
use Rattle.lexopt_options.specs.Keys.{CanHaveKeys, HaveKeys}
use Rattle.lexopt_options.proofs.KeysGiven.{can_have_before}
use Rattle.lexopt_options.proofs.read.refused_for.Goals as goal

pub returns : goal.returns
returns g c = λ words stopped.
    let o = c.args.options.now in (
      record {
        program = c.program.ensures;
        help = c.help_names.ensures;
        why = stopped.why;
        told = stopped.told;
        read = stopped.read;
        stops = stopped.stops;
        own = stopped.own;
        before = c.give_keys.ensures.same (options_of o) (parsed_before stopped.why stopped.read) stopped.before;
        keys = subst (λ ps. HaveKeys ps c.give_keys.new.parsed.items) c.positionals.ensures.same
            (c.give_keys.ensures.keys (subst (λ ps. CanHaveKeys ps c.args.before.items) (sym c.positionals.ensures.same) (can_have_before o stopped.read stopped.why c.args.before.items stopped.stops.read.within stopped.before stopped.firsts)));
      },
      refl,
    )
