-- A token is behind the fronts where none of its positions is ahead of its own.
use Rattle.std.proofs.Common.{◌≡◌, if◌then◌else◌, ℕ, ◌<◌, ◌≤◌, ◌&&◌, Bool, true, false, not, Option, Some, None, nat_le, nat_lt, refl, sym, ap, ap₂, ◌∙◌, inl, inr, arith}
use Rattle.std.specs.Prelude.{option_and_then, length}
use Rattle.std.specs.Option.{is_some, option_or}
use Rattle.std.proofs.lemmas.Bool.{cases_Bool, leb-true, ltb-true, ltb-false, le-leb}
use Rattle.mx_ids.specs.declared.page_token.PageToken.{PageToken}
use Rattle.mx_ids.specs.declared.sync_token.SyncToken.{SyncToken}
use Rattle.mx_fold.specs.Lists.{Lists, fronts_of}
use Rattle.mx_fold.specs.Replies.{is_behind}
use Rattle.mx_pager.specs.Asks.{ahead_of, exceeds, token_ahead}
use Rattle.mx_pager.specs.declared.asked.Bound.{Bound}
use Rattle.mx_pager.specs.declared.asked.Bound.TheVariants as bound
use Rattle.mx_sync.specs.Asks as sync
use Rattle.mx_view.specs.Tokens.{is_before}
use Rattle.mx_engine.specs.Acts.Reads.{snapshot_of}

not_ahead : (f t : ℕ) → nat_le t f ≡ not (nat_lt f t)
not_ahead f t = elim (cases_Bool (nat_lt f t)) [
  | inl is ↦ elim (cases_Bool (nat_le t f)) [
    | inl le ↦ let a : t ≤ f = leb-true t f le in let b : f < t = ltb-true f t is in absurd (omega (arith, a, b))
    | inr above ↦ above ∙ ap not (sym is)
  ]
  | inr reached ↦ le-leb t f (ltb-false f t reached) ∙ ap not (sym reached)
]

first_ahead : (a b c d : Bool) (x y z w : ℕ × ℕ)
    → not a && (not b && (not c && not d))
    ≡ not (is_some (if a then Some x else (if b then Some y else (if c then Some z else (if d then Some w else None)))))
first_ahead true b c d x y z w = refl
first_ahead false true c d x y z w = refl
first_ahead false false true d x y z w = refl
first_ahead false false false true x y z w = refl
first_ahead false false false false x y z w = refl

before_is : (t fronts : SyncToken) → is_before t fronts ≡ not (nat_lt fronts.e t.e) && (not (nat_lt fronts.r t.r) && (not (nat_lt fronts.a t.a) && not (nat_lt fronts.d t.d)))
before_is t fronts =
    ap₂ (λ a b. a && b) (not_ahead fronts.e t.e)
    (ap₂ (λ a b. a && b) (not_ahead fronts.r t.r) (ap₂ (λ a b. a && b) (not_ahead fronts.a t.a) (not_ahead fronts.d t.d)))

-- as a sync judges a token
pub sync_behind : (since : Option SyncToken) (fronts : SyncToken) → is_behind since fronts ≡ not (is_some (sync.ahead_of since fronts))
sync_behind None fronts = refl
sync_behind (Some t) fronts =
    before_is t fronts
    ∙ first_ahead (nat_lt fronts.e t.e) (nat_lt fronts.r t.r) (nat_lt fronts.a t.a) (nat_lt fronts.d t.d) (t.e, fronts.e) (t.r, fronts.r) (t.a, fronts.a) (t.d, fronts.d)

-- ---- as a page judges its bounds

exceeds_is : (a f : ℕ) → nat_le a f ≡ not (is_some (exceeds a f))
exceeds_is a f = not_ahead f a ∙ if_some (nat_lt f a) where
  if_some : (b : Bool) → not b ≡ not (is_some {T = ℕ × ℕ} (if b then Some (a, f) else None))
  if_some true = refl
  if_some false = refl

either : {A : Type 0} (o p : Option A) → not (is_some o) && not (is_some p) ≡ not (is_some (option_or o p))
either None p = refl
either (Some x) p = refl

token_behind : (l : Lists) (t : SyncToken) → is_before t (fronts_of l) ≡ not (is_some (token_ahead (snapshot_of l) t))
token_behind l t =
    ap₂ (λ a b. a && b) (exceeds_is t.e (length l.events))
    (ap₂ (λ a b. a && b) (exceeds_is t.r (length l.receipts))
    (ap₂ (λ a b. a && b) (exceeds_is t.a (length l.accounts)) (exceeds_is t.d 0)
    ∙ either (exceeds t.a (length l.accounts)) (exceeds t.d 0))
    ∙ either (exceeds t.r (length l.receipts)) (option_or (exceeds t.a (length l.accounts)) (exceeds t.d 0)))
    ∙ either (exceeds t.e (length l.events)) (option_or (exceeds t.r (length l.receipts)) (option_or (exceeds t.a (length l.accounts)) (exceeds t.d 0)))

abbrev pub to_bound : Option SyncToken → Option Bound
to_bound None = None
to_bound (Some t) = Some (bound.Sync t)

to_behind : (l : Lists) (to : Option SyncToken) → is_behind to (fronts_of l) ≡ not (is_some (option_and_then (ahead_of (snapshot_of l)) (to_bound to)))
to_behind l None = refl
to_behind l (Some t) = token_behind l t

-- a page from a page token, back to a sync token or the room's start
pub page_behind : (l : Lists) (from : PageToken) (to : Option SyncToken)
    → nat_le from.e (fronts_of l).e && is_behind to (fronts_of l)
    ≡ not (is_some (option_or (exceeds from.e (length l.events)) (option_and_then (ahead_of (snapshot_of l)) (to_bound to))))
page_behind l from to =
    ap₂ (λ a b. a && b) (exceeds_is from.e (length l.events)) (to_behind l to)
    ∙ either (exceeds from.e (length l.events)) (option_and_then (ahead_of (snapshot_of l)) (to_bound to))
