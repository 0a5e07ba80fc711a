-- A client whose syncs and pages are answered on several connections: the headline's clause on exchanges in any order.
use Rattle.std.specs.Prelude.{◌≡◌, ℕ, ◌≤◌, ◌&&◌, Bool, true, false, cond, nat_eq, List, [], ◌∷◌, Option, Some, None, IfSome, ⊤}
use Rattle.mx_ids.specs.declared.sync_token.SyncToken.{SyncToken}
use Rattle.mx_view.specs.Tokens.{same_token}
use Rattle.mx_filter.specs.Sieves as sieves
use Rattle.mx_filter.specs.declared.parts.Selection.{Selection}
use Rattle.mx_fold.specs.Lists.{Histories, Counts, AreFewer, AreLawful, fronts_of, lists_of}
use Rattle.mx_fold.specs.Servers.{Server, RestsFold}
use Rattle.mx_fold.specs.Replies.{Ask, Said, Replied, Showed, PassedOver}
use Rattle.mx_fold.specs.Clients.{Client, Exchange, with_said, chain, Agrees}
use Rattle.mx_fold.specs.Exchanges.{Mark, exchanges}

-- the client's token lies at or before the front
abbrev pub ReachesToken : {V : Type 0} → ℕ → Option (Client V) → Type 0
ReachesToken front None = ⊤
ReachesToken front (Some c) = c.token.e ≤ front

-- a page that the client takes was answered at such a front
abbrev pub Reaches : {V D : Type 0} → Selection → ℕ → Said V D → Option (Client V) → Type 0
Reaches f front (Replied ask reply) client = ⊤
Reaches f front (Showed ask page) client = sieves.fits f ask.filter ≡ true → ReachesToken front client
Reaches f front PassedOver client = ⊤

abbrev pub after_exchange : {V D : Type 0} → Server V D → ℕ → Selection → Exchange V D → Option (Client V) → Option (Client V)
after_exchange w device f x client = cond (nat_eq x.device device) (with_said w (w.user_of device) f (fronts_of x.lists).e x.said client) client

-- each page of the device was asked where the lists reach the token that its client had then
abbrev pub PagesReach : {V D : Type 0} → Server V D → ℕ → Selection → Option (Client V) → List (Exchange V D) → Type 0
PagesReach w device f client [] = ⊤
PagesReach w device f client (x ∷ xs) =
    (nat_eq x.device device ≡ true → Reaches f (fronts_of x.lists).e x.said client) × PagesReach w device f (after_exchange w device f x client) xs

-- ---- on which connection

-- the client takes the reply to a sync
abbrev pub answers_token : {V : Type 0} → Option (Client V) → Option SyncToken → Bool
answers_token client None = true
answers_token None (Some since) = false
answers_token (Some c) (Some since) = same_token c.token since

abbrev pub is_taken : {V D : Type 0} → Selection → Said V D → Option (Client V) → Bool
is_taken f (Replied ask reply) client = sieves.same_filter ask.filter f && answers_token client ask.since
is_taken f (Showed ask page) client = false
is_taken f PassedOver client = false

-- a page that the client takes was asked on the connection of its last sync
abbrev pub Follows : {V D : Type 0} → Selection → ℕ → Option ℕ → Said V D → Option (Client V) → Type 0
Follows f on last (Replied ask reply) client = ⊤
Follows f on last (Showed ask page) None = ⊤
Follows f on last (Showed ask page) (Some c) = sieves.fits f ask.filter ≡ true → last ≡ Some on
Follows f on last PassedOver client = ⊤

-- the connection of the client's last sync
abbrev pub last_after : {V D : Type 0} → ℕ → Selection → Exchange V D → Option (Client V) → ℕ → Option ℕ → Option ℕ
last_after device f x client on last = cond (nat_eq x.device device && is_taken f x.said client) (Some on) last

abbrev pub PagesFollow : {V D : Type 0} → Server V D → ℕ → Selection → Option (Client V) → Option ℕ → List ℕ → List (Exchange V D) → Type 0
PagesFollow w device f client last ons [] = ⊤
PagesFollow w device f client last [] (x ∷ xs) = ⊥
PagesFollow w device f client last (on ∷ ons) (x ∷ xs) =
    (nat_eq x.device device ≡ true → Follows f on last x.said client)
    × PagesFollow w device f (after_exchange w device f x client) (last_after device f x client on last) ons xs

-- on each connection the lists at a mark begin those at the next one
abbrev pub AreLater : ℕ → Counts → List ℕ → List Mark → Type 0
AreLater on n [] marks = ⊤
AreLater on n (k ∷ ons) [] = ⊤
AreLater on n (k ∷ ons) (mark ∷ marks) = (nat_eq k on ≡ true → AreFewer n mark.stores) × AreLater on n ons marks

abbrev pub EachRises : List ℕ → List Mark → Type 0
EachRises [] marks = ⊤
EachRises (on ∷ ons) [] = ⊤
EachRises (on ∷ ons) (mark ∷ marks) = AreLater on mark.stores ons marks × EachRises ons marks

-- A client that asks its pages on the connection of its last sync asks them where the lists reach its token.
abbrev pub FollowersReach : Type 0 → Type 0 → Type 0
FollowersReach V D = (w : Server V D) (h : Histories) (asked : List (ℕ × Ask)) (marks : List Mark) (ons : List ℕ) → EachRises ons marks
    → (device : ℕ) (f : Selection) → PagesFollow w device f None None ons (exchanges w h asked marks)
    → PagesReach w device f None (exchanges w h asked marks)

-- Whatever is asked, each on whatever beginning of the stores, in whatever order these begin one another: the chain of a device
-- and a filter agrees with the picture at its token, if its pages were asked where the lists reach its token.
abbrev pub ClientsAgree : Type 0 → Type 0 → Type 0
ClientsAgree V D = (w : Server V D) (h : Histories) → AreLawful h → RestsFold w (lists_of h) → (asked : List (ℕ × Ask)) (marks : List Mark)
    → (device : ℕ) (f : Selection) → sieves.folds f ≡ true → PagesReach w device f None (exchanges w h asked marks)
    → IfSome (chain w device f None (exchanges w h asked marks)) (Agrees w (w.user_of device) f (lists_of h))
