-- Copies after redactions keep their position, key, sender and what they name.
use Rattle.std.proofs.Common.{◌≡◌, ℕ, List, refl, inl, inr}
use Rattle.std.proofs.lemmas.Bool.{cases_Bool}
use Rattle.mx_folding.proofs.Keys.{red_has, red_wrote}
use Rattle.mx_folding.specs.Rooms.{Room, IsRoom, has, wrote}
use Rattle.mx_folding.specs.Redactions.{is_named, is_redacted, shown, redact_by}

pub redact_by-at : {E K : Type 0} (r : Room E K) (es by : List E) (is : IsRoom r es) (c : E) → r.at (redact_by r by c) ≡ r.at c
redact_by-at r es by is c = elim (cases_Bool (is_named r by (r.at c))) [ inl a ↦ rw a (is.red_at c) | inr a ↦ rw a refl ]

pub redact_by-has : {E K : Type 0} (r : Room E K) (es by : List E) (is : IsRoom r es) (k : K) (c : E) → has r k (redact_by r by c) ≡ has r k c
redact_by-has r es by is k c = elim (cases_Bool (is_named r by (r.at c))) [ inl a ↦ rw a (red_has r es is k c) | inr a ↦ rw a refl ]

pub redact_by-names : {E K : Type 0} (r : Room E K) (es by : List E) (is : IsRoom r es) (c : E) → r.names (redact_by r by c) ≡ r.names c
redact_by-names r es by is c = elim (cases_Bool (is_named r by (r.at c))) [ inl a ↦ rw a (is.red_names c) | inr a ↦ rw a refl ]

pub redact_by-wrote : {E K : Type 0} (r : Room E K) (es by : List E) (is : IsRoom r es) (k : K) (c : E) → wrote r k (redact_by r by c) ≡ wrote r k c
redact_by-wrote r es by is k c = elim (cases_Bool (is_named r by (r.at c))) [ inl a ↦ rw a (red_wrote r es is k c) | inr a ↦ rw a refl ]

pub shown-at : {E K : Type 0} (r : Room E K) (es : List E) (is : IsRoom r es) (front : ℕ) (c : E) → r.at (shown r es front c) ≡ r.at c
shown-at r es is front c = elim (cases_Bool (is_redacted r es front c)) [ inl a ↦ rw a (is.red_at c) | inr a ↦ rw a refl ]

pub shown-has : {E K : Type 0} (r : Room E K) (es : List E) (is : IsRoom r es) (front : ℕ) (k : K) (c : E) → has r k (shown r es front c) ≡ has r k c
shown-has r es is front k c = elim (cases_Bool (is_redacted r es front c)) [ inl a ↦ rw a (red_has r es is k c) | inr a ↦ rw a refl ]

pub shown-names : {E K : Type 0} (r : Room E K) (es : List E) (is : IsRoom r es) (front : ℕ) (c : E) → r.names (shown r es front c) ≡ r.names c
shown-names r es is front c = elim (cases_Bool (is_redacted r es front c)) [ inl a ↦ rw a (is.red_names c) | inr a ↦ rw a refl ]

pub shown-wrote : {E K : Type 0} (r : Room E K) (es : List E) (is : IsRoom r es) (front : ℕ) (k : K) (c : E) → wrote r k (shown r es front c) ≡ wrote r k c
shown-wrote r es is front k c = elim (cases_Bool (is_redacted r es front c)) [ inl a ↦ rw a (red_wrote r es is k c) | inr a ↦ rw a refl ]
