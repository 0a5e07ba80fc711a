-- The readings of a clock while a sync waits.
use Rattle.std.proofs.Common.{◌≡◌, ℕ, List, [], ◌∷◌, ◌++◌, refl, sym, ap, ◌∙◌, append-nil, append_assoc}
use Rattle.mx_poll.specs.Waits.{ReadsOn, last_of}

last_of-more : (now : ℕ) (rs : List ℕ) (r : ℕ) → last_of now (rs ++ r ∷ []) ≡ r
last_of-more now [] r = refl
last_of-more now (x ∷ rs) r = last_of-more x rs r

-- the clock wasn't read again
pub reads_none : (old new : List ℕ) (now last : ℕ) → new ≡ old → now ≡ last → ReadsOn old new now last
reads_none old new now last same is = record { more = []; are = same ∙ sym (append-nil old); last_is = is }

-- one reading more, which is the last
pub reads_last : (old mid new more : List ℕ) (now reading last : ℕ) → mid ≡ old ++ more → new ≡ mid ++ reading ∷ [] → reading ≡ last → ReadsOn old new now last
reads_last old mid new more now reading last begun read is = record {
  more = more ++ reading ∷ [];
  are = read ∙ ap (λ l. l ++ reading ∷ []) begun ∙ append_assoc old more (reading ∷ []);
  last_is = last_of-more now more reading ∙ is;
}

-- or which isn't
pub read_more : (old mid new more : List ℕ) (reading : ℕ) → mid ≡ old ++ more → new ≡ mid ++ reading ∷ [] → new ≡ old ++ (more ++ reading ∷ [])
read_more old mid new more reading begun read = read ∙ ap (λ l. l ++ reading ∷ []) begun ∙ append_assoc old more (reading ∷ [])
