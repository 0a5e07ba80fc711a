-- Stores that were made again, of texts one behind the other.
use Rattle.std.proofs.Common.{◌≡◌, inl, inr, ℕ, List, [], ◌∷◌, ◌++◌, Ok, refl, sym, ap, subst, ◌∙◌}
use Rattle.mx_engine.specs.Again.{with_record, with_records}
use Rattle.mx_engine.specs.declared.record.Record.{Record}
use Rattle.mx_fold.specs.Lists.{Histories}
use Rattle.mx_json.specs.Reading.{read_json}
use Rattle.mx_json.specs.declared.value.Json.{Json}
use Rattle.mx_restore.specs.Restored.{HaveMade, TakesText, TakesValue}
use Rattle.mx_restore.specs.Said.{SayAll}

said_all : (ts us : List (List ℕ)) (rs qs : List Record) → SayAll ts rs → SayAll us qs → SayAll (ts ++ us) (rs ++ qs)
said_all [] us rs qs h k = subst (λ l. SayAll us (l ++ qs)) (sym h) k
said_all (t ∷ ts) us rs qs (inl h) k = inl (h.0, said_all ts us rs qs h.1 k)
said_all (t ∷ ts) us rs qs (inr (r, more, is, said, h)) k = inr (r, more ++ qs, ap (λ l. l ++ qs) is, said, said_all ts us more qs h k)

records_all : (rs qs : List Record) (h : Histories) → with_records (rs ++ qs) h ≡ with_records qs (with_records rs h)
records_all [] qs h = refl
records_all (r ∷ rs) qs h = records_all rs qs (with_record r h)

pub made_none : (h : Histories) → HaveMade [] h h
made_none h = record { records = []; said = refl; stores = refl }

pub made_one : (t : List ℕ) (old new : Histories) → TakesText t old new → HaveMade (t ∷ []) old new
made_one t old new (inl (other, same)) = record { records = []; said = inl (other, refl); stores = same }
made_one t old new (inr (r, says, is)) = record { records = r ∷ []; said = inr (r, [], refl, says, refl); stores = is }

pub made_all : (ts us : List (List ℕ)) (old mid new : Histories) → HaveMade ts old mid → HaveMade us mid new → HaveMade (ts ++ us) old new
made_all ts us old mid new h k = record {
  records = h.records ++ k.records;
  said = said_all ts us h.records k.records h.said k.said;
  stores = k.stores ∙ (ap (with_records k.records) h.stores ∙ sym (records_all h.records k.records old));
}

-- what a value says its text says
pub takes_text : (t : List ℕ) (j : Json) (old new : Histories) → read_json t ≡ Ok j → TakesValue j old new → TakesText t old new
takes_text t j old new is (inl (other, same)) = inl ((j, is, other), same)
takes_text t j old new is (inr (r, says, made)) = inr (r, (j, is, says), made)
