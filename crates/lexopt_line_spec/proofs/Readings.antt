-- Whole readings of a line, and the items that the line shows.
use Rattle.std.proofs.Common.{◌≡◌, ◌≢◌, false, List, [], ◌∷◌, Some, None, refl, sym, ap, subst, ◌∙◌}
use Rattle.lexopt_spec.specs.UnreadLine.{UnreadLine, IsLine}
use Rattle.lexopt_spec.specs.Steps as steps
use Rattle.lexopt_spec.specs.Steps.{Reply}
use Rattle.lexopt_spec.specs.Runs.{Call, Run}
use Rattle.lexopt_line_spec.specs.Table.{Name, short, long, Item, option, positional, Kind, many, flag, kind, Table}
use Rattle.lexopt_line_spec.specs.Readings.{IsDue, IsLast, GoesOn, AskedAfter, last, more, item_after, items_of_replies}
use Rattle.lexopt_line_spec.proofs.RunAccounts.{step_line}
use Rattle.lexopt_line_spec.proofs.Unread.{ShowsFrom, ShowsAfter, Leads, GoesOnShowing}
use Rattle.lexopt_line_spec.proofs.NextLaw.{next_law}
use Rattle.lexopt_line_spec.proofs.ReplyKinds.{IsNextReply, next_reply, next_open}
use Rattle.lexopt_line_spec.proofs.StepsAfterOptions.{StepAfterOption, step_after_option, last_full, reply_after_option, law_after_option, last_found, more_found}

-- ---- the items that a line shows after an option of some kind

abbrev pub DueShows : Table → Kind → Name → UnreadLine → List Item → Type 0
DueShows t flag name u l = ShowsFrom t u l
DueShows t k name u l = ShowsAfter t name u l

-- the items that the replies mean after an option of this kind and name
abbrev pub said : Kind → Name → List Reply → List Item
said flag name replies = items_of_replies replies
said k name replies = item_after name replies ∷ items_of_replies replies

next_reply_item : (name : Name) (r : Reply) (replies : List Reply) → IsNextReply r → item_after name (r ∷ replies) ≡ option name None
next_reply_item name (steps.short c) replies is = refl
next_reply_item name (steps.long n) replies is = refl
next_reply_item name (steps.positional word) replies is = refl
next_reply_item name steps.end replies is = refl
next_reply_item name (steps.unexpected o word) replies is = refl
next_reply_item name reply replies is = absurd is

-- an option after which `next` is called is a flag
pub flag_item : (t : Table) (final : Reply) (name : Name) (u after : UnreadLine) (calls : List Call) (replies : List Reply) (k : Kind) → k ≡ flag → AskedAfter t final k calls replies
    → Run u calls replies after → item_after name replies ≡ option name None
flag_item t final name u after calls replies k is (last k' call due ends) run =
    next_reply_item name final [] (next_reply u run.0 final (step_after_option flag call u run.0 final (subst (λ (x : Kind). IsDue x call) is due) (last_full call final ends) (last_found final ends) run.1))
flag_item t final name u after calls replies k is (more k' k2 call reply calls' replies' due full goes asked) run =
    next_reply_item name reply replies' (next_reply u run.0 reply (step_after_option flag call u run.0 reply (subst (λ (x : Kind). IsDue x call) is due) full (more_found t reply k2 goes) run.1))

-- ---- one step, and the items that the line shows before and after it

abbrev name_of : Name → Reply → Name
name_of name (steps.short c) = short c
name_of name (steps.long n) = long n
name_of name reply = name

abbrev pub IsKnown : Table → Kind → Name → UnreadLine → Type 0
IsKnown t k name u = k ≢ flag → (kind t name ≡ k) × (u.ended ≡ false)

-- after no option
pub no_option_after : (t : Table) (name : Name) (u : UnreadLine) → IsKnown t flag name u
no_option_after t name u other = absurd (other refl)

known_then : (t : Table) (k0 : Kind) (name : Name) (u v : UnreadLine) (r : Reply) (k : Kind) → IsLine u → StepAfterOption k0 u r v → GoesOn t r k → IsKnown t k (name_of name r) v
known_then t flag name u v (steps.short c) k line step goes other = (sym goes, next_open u v _ line step tt)
known_then t flag name u v (steps.long n) k line step goes other = (sym goes, next_open u v _ line step tt)
known_then t k0 name u v (steps.short c) k line step goes other = absurd (reply_after_option k0 u v _ (λ same. cc) step)
known_then t k0 name u v (steps.long n) k line step goes other = absurd (reply_after_option k0 u v _ (λ same. cc) step)
known_then t k0 name u v (steps.positional word) k line step goes other = absurd (other goes)
known_then t k0 name u v (steps.taken word) k line step goes other = absurd (other goes)
known_then t k0 name u v (steps.maybe value) k line step goes other = absurd (other goes)
known_then t k0 name u v (steps.items values) k line step goes other = absurd (other goes)
known_then t k0 name u v reply k line step goes other = absurd goes

-- if the option is a flag, these replies give it no value
abbrev IsAlone : Kind → Name → List Reply → Type 0
IsAlone k name replies = k ≡ flag → item_after name replies ≡ option name None

option_shown : (t : Table) (k : Kind) (name : Name) (v : UnreadLine) (replies : List Reply) → IsAlone k name replies → DueShows t k name v (said k name replies)
    → GoesOnShowing t k name v (item_after name replies ∷ items_of_replies replies)
option_shown t flag name v replies is shows = record { others = items_of_replies replies; shows = shows; items_are = ap (λ x. x ∷ items_of_replies replies) (is refl) }
option_shown t k name v replies is shows = shows

step_shown : (t : Table) (k k2 : Kind) (name : Name) (u v : UnreadLine) (r : Reply) (replies : List Reply) → IsKnown t k name u → IsLine u → StepAfterOption k u r v → GoesOn t r k2
    → IsAlone k2 (name_of name r) replies → DueShows t k2 (name_of name r) v (said k2 (name_of name r) replies) → DueShows t k name u (said k name (r ∷ replies))
step_shown t flag k2 name u v (steps.short c) replies known line step goes is shows =
    (next_law t u v (steps.short c) _ line step).1
    (subst (λ (x : Kind). GoesOnShowing t x (short c) v (item_after (short c) replies ∷ items_of_replies replies)) goes (option_shown t k2 (short c) v replies is shows))
step_shown t flag k2 name u v (steps.long n) replies known line step goes is shows =
    (next_law t u v (steps.long n) _ line step).1
    (subst (λ (x : Kind). GoesOnShowing t x (long n) v (item_after (long n) replies ∷ items_of_replies replies)) goes (option_shown t k2 (long n) v replies is shows))
step_shown t flag k2 name u v (steps.positional word) replies known line step goes is shows =
    (next_law t u v (steps.positional word) _ line step).1
    (record { others = items_of_replies replies; shows = subst (λ (x : Kind). DueShows t x name v (said x name replies)) goes shows; items_are = refl })
step_shown t flag k2 name u v (steps.taken word) replies known line step goes is shows = absurd (next_reply u v _ step)
step_shown t flag k2 name u v (steps.maybe value) replies known line step goes is shows = absurd (next_reply u v _ step)
step_shown t flag k2 name u v (steps.items values) replies known line step goes is shows = absurd (next_reply u v _ step)
step_shown t k k2 name u v (steps.maybe value) replies known line step goes is shows =
    let other : k ≢ flag = λ same. cc in
    (law_after_option t k name u v (steps.maybe value) _ other (known other) line step).1
    (record { others = items_of_replies replies; shows = subst (λ (x : Kind). DueShows t x name v (said x name replies)) goes shows; items_are = refl })
step_shown t k k2 name u v (steps.items values) replies known line step goes is shows =
    let other : k ≢ flag = λ same. cc in
    (law_after_option t k name u v (steps.items values) _ other (known other) line step).1
    (record { others = items_of_replies replies; shows = subst (λ (x : Kind). DueShows t x name v (said x name replies)) goes shows; items_are = refl })
step_shown t k k2 name u v (steps.taken word) replies known line step goes is shows =
    let other : k ≢ flag = λ same. cc in
    (law_after_option t k name u v (steps.taken word) _ other (known other) line step).1
    (record { others = items_of_replies replies; shows = subst (λ (x : Kind). DueShows t x name v (said x name replies)) goes shows; items_are = refl })
step_shown t k k2 name u v (steps.short c) replies known line step goes is shows = absurd (reply_after_option k u v _ (λ same. cc) step)
step_shown t k k2 name u v (steps.long n) replies known line step goes is shows = absurd (reply_after_option k u v _ (λ same. cc) step)
step_shown t k k2 name u v (steps.positional word) replies known line step goes is shows = absurd (reply_after_option k u v _ (λ same. cc) step)
step_shown t k k2 name u v reply replies known line step goes is shows = absurd goes

-- if the line shows the items `l`, the line after the step shows `others`; if those are the items
-- that the later replies mean, then `l` are the items `all` that all replies mean
pub record ShownThen (t : Table) (k : Kind) (name : Name) (v : UnreadLine) (replies : List Reply) (l all : List Item) : Type 0 where
  pub others : List Item
  pub shows : DueShows t k name v others
  pub so : others ≡ said k name replies → l ≡ all

option_then : (t : Table) (k : Kind) (name : Name) (v : UnreadLine) (replies : List Reply) (l : List Item) → IsAlone k name replies → GoesOnShowing t k name v l
    → ShownThen t k name v replies l (item_after name replies ∷ items_of_replies replies)
option_then t flag name v replies l is leads = record {
  others = leads.others;
  shows = leads.shows;
  so = λ same. leads.items_are ∙ ap (λ x. x ∷ leads.others) (sym (is refl)) ∙ ap (λ m. item_after name replies ∷ m) same;
}
option_then t k name v replies l is shows = record { others = l; shows = shows; so = λ same. same }

leads_then : (t : Table) (k : Kind) (name : Name) (v : UnreadLine) (replies : List Reply) (l : List Item) (item : Item) → k ≡ flag → Leads t item v l
    → ShownThen t k name v replies l (item ∷ items_of_replies replies)
leads_then t flag name v replies l item is leads = record {
  others = leads.others;
  shows = leads.shows;
  so = λ same. leads.items_are ∙ ap (λ m. item ∷ m) same;
}
leads_then t k name v replies l item is leads = absurd (let e : k ≡ flag = is in cc)

step_then : (t : Table) (k k2 : Kind) (name : Name) (u v : UnreadLine) (r : Reply) (replies : List Reply) (l : List Item) → IsKnown t k name u → IsLine u → StepAfterOption k u r v → GoesOn t r k2
    → IsAlone k2 (name_of name r) replies → DueShows t k name u l → ShownThen t k2 (name_of name r) v replies l (said k name (r ∷ replies))
step_then t flag k2 name u v (steps.short c) replies l known line step goes is shows =
    option_then t k2 (short c) v replies l is (subst (λ (x : Kind). GoesOnShowing t x (short c) v l) (sym goes) ((next_law t u v (steps.short c) l line step).0 shows))
step_then t flag k2 name u v (steps.long n) replies l known line step goes is shows =
    option_then t k2 (long n) v replies l is (subst (λ (x : Kind). GoesOnShowing t x (long n) v l) (sym goes) ((next_law t u v (steps.long n) l line step).0 shows))
step_then t flag k2 name u v (steps.positional word) replies l known line step goes is shows =
    leads_then t k2 name v replies l (positional word) goes ((next_law t u v (steps.positional word) l line step).0 shows)
step_then t flag k2 name u v (steps.taken word) replies l known line step goes is shows = absurd (next_reply u v _ step)
step_then t flag k2 name u v (steps.maybe value) replies l known line step goes is shows = absurd (next_reply u v _ step)
step_then t flag k2 name u v (steps.items values) replies l known line step goes is shows = absurd (next_reply u v _ step)
step_then t k k2 name u v (steps.maybe value) replies l known line step goes is shows =
    let other : k ≢ flag = λ same. cc in
    leads_then t k2 name v replies l (option name value) goes ((law_after_option t k name u v (steps.maybe value) l other (known other) line step).0 shows)
step_then t k k2 name u v (steps.items values) replies l known line step goes is shows =
    let other : k ≢ flag = λ same. cc in
    leads_then t k2 name v replies l (many name values) goes ((law_after_option t k name u v (steps.items values) l other (known other) line step).0 shows)
step_then t k k2 name u v (steps.taken word) replies l known line step goes is shows =
    let other : k ≢ flag = λ same. cc in
    leads_then t k2 name v replies l (option name (Some word)) goes ((law_after_option t k name u v (steps.taken word) l other (known other) line step).0 shows)
step_then t k k2 name u v (steps.short c) replies l known line step goes is shows = absurd (reply_after_option k u v _ (λ same. cc) step)
step_then t k k2 name u v (steps.long n) replies l known line step goes is shows = absurd (reply_after_option k u v _ (λ same. cc) step)
step_then t k k2 name u v (steps.positional word) replies l known line step goes is shows = absurd (reply_after_option k u v _ (λ same. cc) step)
step_then t k k2 name u v reply replies l known line step goes is shows = absurd goes

-- ---- a reading that reaches the end gives the items that the line shows

end_shown : (t : Table) (k : Kind) (name : Name) (u v : UnreadLine) → IsLine u → StepAfterOption k u steps.end v → DueShows t k name u (said k name (steps.end ∷ []))
end_shown t flag name u v line step = (next_law t u v steps.end [] line step).1 refl
end_shown t k name u v line step = absurd (reply_after_option k u v _ (λ same. cc) step)

pub sound : (t : Table) (k : Kind) (name : Name) (u after : UnreadLine) (calls : List Call) (replies : List Reply) → IsKnown t k name u → IsLine u
    → AskedAfter t steps.end k calls replies → Run u calls replies after → DueShows t k name u (said k name replies)
sound t k name u after calls replies known line (last k' call due is) run =
    end_shown t k name u run.0 line (step_after_option k call u run.0 steps.end due (last_full call steps.end is) (last_found steps.end is) run.1)
sound t k name u after calls replies known line (more k' l call reply calls' replies' due full goes asked) run =
    let v = run.0 in
    let step = step_after_option k call u v reply due full (more_found t reply l goes) run.1 in
    step_shown t k l name u v reply replies' known line step goes
    (λ is. flag_item t steps.end (name_of name reply) v after calls' replies' l is asked run.2)
    (sound t l (name_of name reply) v after calls' replies' (known_then t k name u v reply l line step goes) (step_line call u reply v line run.1) asked run.2)

-- ---- a reading of a line that shows items reaches its end

final_end : (t : Table) (k : Kind) (name : Name) (u v : UnreadLine) (final : Reply) (l : List Item) → IsKnown t k name u → IsLine u → IsLast final → StepAfterOption k u final v → DueShows t k name u l
    → (final ≡ steps.end) × (l ≡ said k name (final ∷ []))
final_end t flag name u v steps.end l known line is step shows = (refl, (next_law t u v steps.end l line step).0 shows)
final_end t flag name u v (steps.missing o) l known line is step shows = absurd ((next_law t u v (steps.missing o) l line step).0 shows)
final_end t flag name u v (steps.unexpected o w) l known line is step shows = absurd ((next_law t u v (steps.unexpected o w) l line step).0 shows)
final_end t k name u v steps.end l known line is step shows =
    let other : k ≢ flag = λ same. cc in absurd ((law_after_option t k name u v steps.end l other (known other) line step).0 shows)
final_end t k name u v (steps.missing o) l known line is step shows =
    let other : k ≢ flag = λ same. cc in absurd ((law_after_option t k name u v (steps.missing o) l other (known other) line step).0 shows)
final_end t k name u v (steps.unexpected o w) l known line is step shows =
    let other : k ≢ flag = λ same. cc in absurd ((law_after_option t k name u v (steps.unexpected o w) l other (known other) line step).0 shows)
final_end t k name u v reply l known line is step shows = absurd is

pub complete : (t : Table) (final : Reply) (k : Kind) (name : Name) (u after : UnreadLine) (calls : List Call) (replies : List Reply) (l : List Item) → IsKnown t k name u → IsLine u
    → AskedAfter t final k calls replies → Run u calls replies after → DueShows t k name u l → (final ≡ steps.end) × (l ≡ said k name replies)
complete t final k name u after calls replies l known line (last k' call due is) run shows =
    final_end t k name u run.0 final l known line is (step_after_option k call u run.0 final due (last_full call final is) (last_found final is) run.1) shows
complete t final k name u after calls replies l known line (more k' k2 call reply calls' replies' due full goes asked) run shows =
    let v = run.0 in
    let step = step_after_option k call u v reply due full (more_found t reply k2 goes) run.1 in
    let s = step_then t k k2 name u v reply replies' l known line step goes
    (λ is. flag_item t final (name_of name reply) v after calls' replies' k2 is asked run.2) shows in
    let rest = complete t final k2 (name_of name reply) v after calls' replies' s.others (known_then t k name u v reply k2 line step goes) (step_line call u reply v line run.1) asked run.2 s.shows in
    (rest.0, s.so rest.1)
