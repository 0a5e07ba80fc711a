-- A struct of ghost fields alone holds what its maker's caller names. Assumes `Logic`.
use mathlib.Core.Path.{◌≡◌, refl}
use mathlib.Core.List.{[], ◌∷◌}
use seplogic.Ra.Ura.{Ura}
use mir.Syntax.{Fn, named, a_type}
use mir.MapTy.{inst_fn}
use mir.Val.{Val, vptr, vstruct, vnil}
use base.Logic.{ent, emp, via, fst∗}
use prog.Wp.{Calls, Loops, WpFn, Tables}
use types.Logic.{Logic}
use contract.Lifetimes.{Lfts, Shares}
use contract.Monad.{fact}
use contract.Running.{tables, tables_of}
use sound.WpLaws.{WpFn-mono}
use types.Kit.{‵, raw, ◌$◌, ◌∵◌, !, qed, move, suffices, done}
use types.Run.{no_more, returns, enter}
use types.Part.{agg}
use types.ByLocal.{alloc_all, pass_all, free_all, look_at, sets}
use denote.Exit.{yes}
use denote.Param.{layouts}
use denote.RattleType.{RattleType, owns}
use denote.Ref.{shr_vals, shr_Tells}
use denote.Shadow.{pure_i}
use denote.Signature.{plain, shr_ref_to, types_at}
use denote.Triple.Carry.{spared}
use denote.Triple.Clauses.{Clauses, Ended, closing}
use denote.Triple.Entry.{on_entry, alive, Args}
use denote.Triple.Spec.{Meets, triple_of}
use denote.Triple.Table.{entered, run_framed}
use denote.Triple.Walked.{says, Stays, stay_none_ref, Goes-none_ref, walk_of, ends_at, walked, walk_Meets}
use Rattle.mx_room.specs.contracts.ledger.Ledger as ledger
use Rattle.mx_room.specs.contracts.ledger.Ledger.made_of.Key.{name as key}
use Rattle.mx_room.proofs.ledger.Ledger.made_of.Statement as stated
use Rattle.mx_room.proofs.ledger.Ledger.made_of.Code as code
use Rattle.mx_room.specs.Books.{Rooms}

module _ (T : RattleType) where
  abbrev made : Fn
  made = inst_fn (layouts (a_type ∷ []) (T, tt)) code.function

  abbrev ended : Ended
  ended = record { signature = record { lifetimes = 1; outlives = []; params = shr_ref_to (0 ∷ []) tt (plain (λ _. T)) ∷ []; result = plain (λ _. ledger.the_row) }; kept = (yes, tt) }

  abbrev stayed : Stays ended.signature.params ended.kept
  stayed = (stay_none_ref (0 ∷ []) tt (plain (λ _. T)) yes, tt)

  abbrev spec : {M : Type 1} {𝓤 : Ura M} (𝓛 : Logic 𝓤) → Clauses 𝓤 ended
  spec {𝓤 = 𝓤} 𝓛 κs a = record { ghost = Rooms; requires = λ _. emp 𝓤; ensures = λ rooms r _. fact 𝓤 (r.rooms ≡ rooms) }

module _ (T : RattleType) {M : Type 1} {𝓤 : Ura M} (𝓛 : Logic 𝓤) where
  open 𝓛 use {H}

  module _ (C : Calls 𝓤 H) (Λ : Loops 𝓤 H) (κs : Lfts 1) (qs : Shares 1) (a : Args (ended T).signature κs) (rooms : Rooms) where
    abbrev parts : Val
    parts = vptr a.0.ref_ptr.0 a.0.ref_ptr.1

    abbrev bound : (walk_of 𝓛 (ended T) (stayed T) (spec T 𝓛)).Ghost
    bound = ((κs, qs, tt, a, (parts ∷ [], tt)), rooms)

    walk : ent 𝓤 (on_entry 𝓛 (ended T).signature κs qs a (parts ∷ [], tt)) (WpFn 𝓤 H C Λ (made T) (parts ∷ []) ((walk_of 𝓛 (ended T) (stayed T) (spec T 𝓛)).post bound))
    walk =
        qed 𝓛 (raw (alive 𝓛 (ended T).signature κs qs) ∷ ‵ (owns (types_at (ended T).signature.params κs) a (parts ∷ [], tt)) ∷ []) ∵ enter ! C Λ (made T) (parts ∷ []) _ $
        alloc_all ! (λ l. pass_all ! refl ((tt, tt), tt) $ sets ! (agg ! (no_more !)) refl (tt, tt) $
        returns ! (look_at ! 0 refl) $ free_all ! refl $
        suffices ! _ (ends_at 𝓛 (ended T) (stayed T) (spec T 𝓛) bound (vstruct vnil) (record { rooms = rooms }) (tt, tt) (tt, tt)) $
        says ! refl $ pure_i ! (ledger.the_row.own_val (record { rooms = rooms }) (vstruct vnil ∷ [])) ((λ vss. (tt, tt)), tt) ((tt, (refl, tt)), tt) $
        move ! (1 ∷ 2 ∷ 0 ∷ []) $ done !)

  meets : (𝓣 : Tables 𝓤 H) → Meets 𝓛 (ended T).signature (WpFn 𝓤 H 𝓣.C 𝓣.Λ (made T)) (closing 𝓛 (ended T) (spec T 𝓛))
  meets 𝓣 =
      walk_Meets 𝓛 (ended T) (stayed T) (Goes-none_ref 𝓛 1 (0 ∷ []) tt (plain (λ _. T)) yes, tt) (spec T 𝓛) (WpFn 𝓤 H 𝓣.C 𝓣.Λ (made T)) (WpFn-mono 𝓤 H 𝓛.laws 𝓣 (made T))
      (walked 𝓛 (ended T) (stayed T) (spec T 𝓛) (WpFn 𝓤 H 𝓣.C 𝓣.Λ (made T)) (λ κs. (shr_vals, tt)) (λ κs. (shr_Tells (named 0) κs.0 T, tt))
      (λ κs qs bounds a rooms are. via 𝓤 _ (fst∗ 𝓤 _ (emp 𝓤)) (walk 𝓣.C 𝓣.Λ κs qs a rooms)))

pub made_of_spec : {M : Type 1} → stated.statement M
unfolding tables_of
made_of_spec 𝓤 𝓛 𝓜 𝓡 wired T laws y =
    let 𝓣 : Tables 𝓤 𝓛.H = tables_of 𝓤 𝓛.H 𝓜 (tables 𝓤 𝓛.H 𝓜 𝓡 𝓡.env) in
    let name = key (layouts (a_type ∷ []) (T, tt)) in
    spared 𝓛 (ended T).signature (𝓡.run (𝓡.env name)) (run_framed 𝓤 𝓛.H 𝓜 𝓡 (𝓡.env name)) 1 (T.lives, tt) (closing 𝓛 (ended T) (spec T 𝓛))
    (entered 𝓤 𝓛.H (triple_of 𝓛 (ended T).signature (closing 𝓛 (ended T) (spec T 𝓛))) 𝓣.C 𝓣.Λ name (made T) (code.unfolded 𝓤 𝓛.H 𝓜 𝓡 wired (T, tt)) (meets T 𝓛 𝓣))
    ((y.0.0, y.0.1, tt, y.0.3, y.0.4), y.1)
