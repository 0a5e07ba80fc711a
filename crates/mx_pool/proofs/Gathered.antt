-- What was served by a pass, on longer lists and with one connection more, and by several passes that met.
use Rattle.std.proofs.Common.{◌≡◌, ℕ, ◌+◌, List, [], ◌∷◌, ◌++◌, length, sym, ap, ◌∙◌, subst, arith, map, length-append}
use Rattle.std.specs.List.{AllByRecursion}
use Rattle.std.proofs.Math.Logic.{∥∥₁_elim, ∥∥₁_map, ∥∥₁_prop}
use Rattle.std.proofs.Props.{props}
use Rattle.mx_serve.specs.OfEngine.Shown.{Ties}
use Rattle.mx_serve.specs.OfEngine.EnginePass.{EnginePass}
use Rattle.mx_serve.proofs.OfEngine.Known.{grows_twice}
use Rattle.mx_fold.specs.Lists.{Grows, Histories}
use Rattle.mx_serve.specs.Together.{IsBegun}
use Rattle.mx_serve.specs.declared.server.Server.{Server}
use Rattle.mx_writers.specs.declared.gate.Gate.{Ghosts}
use Rattle.mx_serve.specs.OfEngine.Outer.{EntryFolds, EventFolds, ReceiptFolds}
use Rattle.mx_pool.specs.Connections.{Connected, Ends, HaveServed, IsConnected, IsOwed, IsPassAt, IsServerAt, Places, Service, service_of, session_of}
use Rattle.mx_pool.specs.Sets.{accounts_set, events_set, receipts_set}

module _ (service : Service) (IsKind : Ends → Type 0) where
  longer : (all more : Histories) → Grows all more → (cs : List Connected) → AllByRecursion (IsConnected service IsKind all) cs → AllByRecursion (IsConnected service IsKind more) cs
  longer all more grows [] h = tt
  longer all more grows (c ∷ cs) h =
      let is : IsConnected service IsKind all c = h.0 in (
        record {
          kind = is.kind;
          served = is.served;
          read_faults = is.read_faults;
          write_faults = is.write_faults;
          valid = is.valid;
          begins = grows_twice c.seen.after all more is.begins grows;
        },
        longer all more grows cs h.1,
      )

  joined : (all : Histories) (cs ds : List Connected) → AllByRecursion (IsConnected service IsKind all) cs → AllByRecursion (IsConnected service IsKind all) ds → AllByRecursion (IsConnected service IsKind all) (cs ++ ds)
  joined all [] ds h k = k
  joined all (c ∷ cs) ds h k = (h.0, joined all cs ds h.1 k)

  -- nothing was served
  pub served_none : (all : Histories) (n : ℕ) → n ≡ 0 → HaveServed service IsKind all n
  served_none all n is = ([], sym is, tt)

  -- by two passes that met
  pub served_both : (a b all : Histories) (n m : ℕ) → Grows a all → Grows b all → HaveServed service IsKind a n → HaveServed service IsKind b m → HaveServed service IsKind all (n + m)
  served_both a b all n m left right h k =
      (h.0 ++ k.0, length-append h.0 k.0 ∙ (λ i. h.1 i + k.1 i), joined all h.0 k.0 (longer a all left h.0 h.2) (longer b all right k.0 k.2))

  pub served_meet : (a b all : Histories) (n m k : ℕ) → k ≡ n + m → Grows a all → Grows b all → ∥ HaveServed service IsKind a n ∥₁ → ∥ HaveServed service IsKind b m ∥₁ → ∥ HaveServed service IsKind all k ∥₁
  served_meet a b all n m k is left right h l =
      ∥∥₁_elim h ∥∥₁_prop (λ x. ∥∥₁_map l (λ y. subst (λ (j : ℕ). HaveServed service IsKind all j) (sym is) (served_both a b all n m left right x y)))

  pub merely_none : (all : Histories) (n : ℕ) → n ≡ 0 → ∥ HaveServed service IsKind all n ∥₁
  merely_none all n is = ∣ served_none all n is ∣₁

  -- and the connection that was owed
  pub served_owed : (old new : Histories) (counted : ℕ) (c : Connected) → Grows old new → IsConnected service IsKind new c → IsOwed service IsKind old counted → HaveServed service IsKind new counted
  served_owed old new counted c grows is owed =
      let h = owed.2 in
      let count : length (c ∷ h.0) ≡ counted = omega (arith, h.1, owed.1) in
      (c ∷ h.0, count, (is, longer old new grows h.0 h.2))

  -- a connection is counted before it is served
  pub owes : (all : Histories) (n counted : ℕ) → counted ≡ n + 1 → HaveServed service IsKind all n → IsOwed service IsKind all counted
  owes all n counted is h = (n, is, h)

  -- and no more where it isn't
  pub forgives : (all : Histories) (n counted : ℕ) → n + 1 ≡ counted → IsOwed service IsKind all counted → HaveServed service IsKind all n
  forgives all n counted is owed = subst (λ k. HaveServed service IsKind all k) (omega (arith, is, owed.1)) owed.2

  -- their sessions begin these lists
  pub all_begun : (all : Histories) (cs : List Connected) → AllByRecursion (IsConnected service IsKind all) cs → AllByRecursion (IsBegun service.site service.stops all) (map session_of cs)
  all_begun all [] h = tt
  all_begun all (c ∷ cs) h = (record { turns = h.0.served.turns; begins = h.0.begins }, all_begun all cs h.1)

-- where other ends are of the kind too
pub other_kind : (service : Service) (A B : Ends → Type 0) → ((e : Ends) → A e → B e) → (all : Histories) (cs : List Connected)
    → AllByRecursion (IsConnected service A all) cs → AllByRecursion (IsConnected service B all) cs
other_kind service A B to all [] h = tt
other_kind service A B to all (c ∷ cs) h =
    let is : IsConnected service A all c = h.0 in (
      record {
        kind = to c.told.before is.kind;
        served = is.served;
        read_faults = is.read_faults;
        write_faults = is.write_faults;
        valid = is.valid;
        begins = is.begins;
      },
      other_kind service A B to all cs h.1,
    )

module _ {G Ev Re Ac : Type 0} {g : Ghosts G} {fe : EventFolds Ev} {fr : ReceiptFolds Re} {fa : EntryFolds Ac} (s : Server G Ev Re Ac g fe fr fa) (service : Service) (places : Places) (p : EnginePass) where
  -- a pass of the streams that lie where the server's do is one of its engine
  pub ties_at : ∥ IsServerAt service places s ∥₁ → IsPassAt places p → Ties s.engine p
  ties_at is at = ∥∥₁_elim is (Prim.hlevel (props, events_set, receipts_set, accounts_set)) (λ h. let e = h.places_are in record {
    events = at.events ∙ sym (ap (λ (i : Places). i.events) e);
    receipts = at.receipts ∙ sym (ap (λ (i : Places). i.receipts) e);
    accounts = at.accounts ∙ sym (ap (λ (i : Places). i.accounts) e);
    known = at.known;
  })

  pub at_ties : ∥ IsServerAt service places s ∥₁ → Ties s.engine p → IsPassAt places p
  at_ties is ties = ∥∥₁_elim is (Prim.hlevel (props, events_set, receipts_set, accounts_set)) (λ h. let e = h.places_are in record {
    events = ties.events ∙ ap (λ (i : Places). i.events) e;
    receipts = ties.receipts ∙ ap (λ (i : Places). i.receipts) e;
    accounts = ties.accounts ∙ ap (λ (i : Places). i.accounts) e;
    known = ties.known;
  })

module _ {G Ev Re Ac : Type 0} {g : Ghosts G} {fe : EventFolds Ev} {fr : ReceiptFolds Re} {fa : EntryFolds Ac} (s : Server G Ev Re Ac g fe fr fa) (service : Service) (places : Places) (IsKind : Ends → Type 0) (old new : Histories) (counted : ℕ) (c : Connected) where
  -- the connection that was owed was served
  pub served_now : ∥ IsServerAt service places s ∥₁ → ∥ IsKind c.told.before ∥₁ → Grows old new → (IsKind c.told.before → IsConnected (service_of s) IsKind new c) → ∥ IsOwed service IsKind old counted ∥₁
      → ∥ HaveServed service IsKind new counted ∥₁
  served_now is kind grows connected owed =
      ∥∥₁_elim is ∥∥₁_prop (λ e. ∥∥₁_elim kind ∥∥₁_prop (λ k. ∥∥₁_map owed (served_owed service IsKind old new counted c grows (subst (λ (i : Service). IsConnected i IsKind new c) e.service_is (connected k)))))
