-- The drafts of a block that creates a room, and the events that they make there.
use Rattle.std.proofs.Common.{◌≡◌, ℕ, ◌<◌, ◌≤◌, List, [], ◌∷◌, ◌++◌, length, map, length-append, Bool, true, false, Option, Some, None, Ok, Err, cond, arith, refl, sym, subst, ◌∙◌, ap, codes}
use Rattle.std.specs.List.{AllByRecursion, list_all}
use Rattle.std.specs.Option.{option_map, option_to_list}
use Rattle.mx_event.specs.declared.draft.Draft.{Draft}
use Rattle.mx_event.specs.declared.event.Event.{Event}
use Rattle.mx_json.specs.Fields.{text_at}
use Rattle.mx_json.specs.declared.value.Json.{Json}
use Rattle.mx_json.specs.declared.value.Json.TheVariants as json
use Rattle.mx_room.specs.Creating.{IsNew}
use Rattle.mx_core.specs.Limits.{most_drawn}
use Rattle.mx_create.specs.Admitted.{IsBlock, IsUnplaced, admitted_block, first_denied, fits_its_server, judged, made, unless_denied}
use Rattle.mx_create.specs.Blocks.{Creating, draft, drafts_of, first_drafts, initial, invitation, named, rules}
use Rattle.mx_create.specs.Bodies.{invited, listed}
use Rattle.mx_create.specs.Contents.{single}
use Rattle.mx_create.specs.declared.fault.CreateFault.TheVariants as faults
use Rattle.mx_create.specs.declared.preset.Preset.{Preset}
use Rattle.mx_create.proofs.Drafts.{first_count}

-- ---- the events are new

each_new : (writer : ℕ) (drafts : List Draft) → AllByRecursion IsUnplaced drafts → AllByRecursion (IsNew writer) (map (made writer) drafts)
each_new writer [] all = tt
each_new writer (d ∷ ds) all = ((refl, all.0.txn), each_new writer ds all.1)

pub are_new : (writer own : ℕ) (drafts : List Draft) (events : List Event) → IsBlock drafts → own ≡ writer → events ≡ map (made own) drafts
    → AllByRecursion (IsNew writer) events
are_new writer own drafts events is same all = subst (AllByRecursion (IsNew writer)) (sym (all ∙ ap (λ w. map (made w) drafts) same)) (each_new writer drafts is.new)

-- ---- what a body asks for is a block

unplaced : (by : Creating) (kind key : List ℕ) (content : Json) → IsUnplaced (draft by kind key content)
unplaced by kind key content = record { key = refl; room = refl; txn = refl }

pub both : {X : Type 0} (P : X → Type 0) (xs ys : List X) → AllByRecursion P xs → AllByRecursion P ys → AllByRecursion P (xs ++ ys)
both P [] ys first second = second
both P (x ∷ xs) ys first second = (first.0, both P xs ys first.1 second)

each : {X : Type 0} (f : X → Draft) → ((x : X) → IsUnplaced (f x)) → (xs : List X) → AllByRecursion IsUnplaced (map f xs)
each f is [] = tt
each f is (x ∷ xs) = (is x, each f is xs)

of_text : (by : Creating) (kind key : List ℕ) (o : Option (List ℕ))
    → AllByRecursion IsUnplaced (option_to_list (option_map (λ text. draft by kind [] (single key (json.Text text))) o))
of_text by kind key None = tt
of_text by kind key (Some text) = (unplaced by kind [] (single key (json.Text text)), tt)

first_new : (by : Creating) (preset : Preset) (ask : Json) → AllByRecursion IsUnplaced (first_drafts by preset ask)
unfolding first_drafts rules
first_new by preset ask =
    (unplaced by _ _ _, (unplaced by _ _ _, (unplaced by _ _ _, (unplaced by _ _ _, (unplaced by _ _ _, (unplaced by _ _ _, tt))))))

all_new : (by : Creating) (preset : Preset) (ask : Json) → AllByRecursion IsUnplaced (drafts_of by preset ask)
unfolding drafts_of
all_new by preset ask =
    both IsUnplaced (first_drafts by preset ask) _ (first_new by preset ask)
    (both IsUnplaced (map (initial by) (listed (codes "initial_state") ask)) _ (each (initial by) (λ j. unplaced by _ _ _) (listed (codes "initial_state") ask))
    (both IsUnplaced (named by (codes "m.room.name") (codes "name") ask) _ (of_text by (codes "m.room.name") (codes "name") (text_at (codes "name") ask))
    (both IsUnplaced (named by (codes "m.room.topic") (codes "topic") ask) _ (of_text by (codes "m.room.topic") (codes "topic") (text_at (codes "topic") ask))
    (each (invitation by ask) (λ user. unplaced by _ _ _) (invited ask)))))

some_new : (by : Creating) (preset : Preset) (ask : Json) → 0 < length (drafts_of by preset ask)
unfolding drafts_of
some_new by preset ask = omega (arith, first_count by preset ask, length-append {A = Draft})

pub is_block : (by : Creating) (preset : Preset) (ask : Json) (drafts : List Draft) → drafts ≡ drafts_of by preset ask → length (drafts_of by preset ask) ≤ most_drawn → IsBlock drafts
is_block by preset ask drafts is few =
    subst IsBlock (sym is) (record { some = some_new by preset ask; most = few; new = all_new by preset ask })

-- ---- what is admitted

all_allowed : (fit : Bool) (rule : Option ℕ) (es events : List Event) → cond fit (unless_denied es rule) (Err faults.TooLarge) ≡ Ok events → (rule ≡ None) × (events ≡ es)
all_allowed true None es events is = (refl, cc)
all_allowed true (Some rule) es events is = absurd cc
all_allowed false rule es events is = absurd cc

-- no rule refuses one after those before it, and they are the events of the drafts
pub admitted_are : (writer : ℕ) (drafts : List Draft) (events : List Event) → admitted_block writer drafts ≡ Ok events → (first_denied [] (map (made writer) drafts) ≡ None) × (events ≡ map (made writer) drafts)
unfolding judged
admitted_are writer drafts events is =
    let es = map (made writer) drafts in
    all_allowed (list_all fits_its_server es) (first_denied [] es) es events is
