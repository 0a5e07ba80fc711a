-- What several puts in a row do.
use Rattle.std.proofs.Common.{◌≡◌, ℕ, ◌+◌, ◌≤◌, List, [], ◌++◌, take, length, min, refl, ap, sym, ◌∙◌, append_assoc, append-nil, arith, subst, Some, None}
use Rattle.std.specs.Prelude.{Option, Result, Ok, Err, OnOk, OnErr}
use Rattle.std.specs.Io.KnownBytes.{Appends}
use Rattle.std.proofs.Math.Seq.{take-append-add}
use Rattle.std.proofs.lemmas.List.{take-append-le, take_min}
use Rattle.mx_outside.specs.Causes.{Rose}
use Rattle.mx_http.specs.Stages.{State, Puts, Stops, Sends}

appends_none : (a : Option (List ℕ)) → Appends a a []
appends_none None = tt
appends_none (Some l) = sym (append-nil l)

appends_then : (a b c : Option (List ℕ)) (xs ys zs : List ℕ) → Appends a b xs → Appends b c ys → xs ++ ys ≡ zs → Appends a c zs
appends_then None b c xs ys zs first next joined = tt
appends_then (Some l) None c xs ys zs first next joined = absurd first
appends_then (Some l) (Some m) None xs ys zs first next joined = absurd next
appends_then (Some l) (Some m) (Some k) xs ys zs first next joined =
    next ∙ ap (λ front. front ++ ys) first ∙ append_assoc l xs ys ∙ ap (λ rest. l ++ rest) joined

-- what is left of two puts
shifted : (s xs ys zs o t p u : List ℕ) → s ++ xs ≡ o ++ t → t ++ ys ≡ p ++ u → xs ++ ys ≡ zs → s ++ zs ≡ (o ++ p) ++ u
shifted s xs ys zs o t p u first next joined =
    ap (λ l. s ++ l) (sym joined) ∙ sym (append_assoc s xs ys) ∙ ap (λ l. l ++ ys) first ∙ append_assoc o t ys ∙ ap (λ l. o ++ l) next ∙ sym (append_assoc o p u)

-- a front of the second put is a front of the whole
front_of_whole : (s xs ys rest zs o t : List ℕ) (n : ℕ) → s ++ xs ≡ o ++ t → (xs ++ ys) ++ rest ≡ zs
    → o ++ take n (t ++ ys) ≡ take (length o + min n (length (t ++ ys))) (s ++ zs)
front_of_whole s xs ys rest zs o t n first joined =
    let put = t ++ ys in
    let whole : s ++ zs ≡ o ++ (put ++ rest) =
    ap (λ l. s ++ l) (sym joined) ∙ sym (append_assoc s (xs ++ ys) rest) ∙ ap (λ l. l ++ rest) (shifted s xs ys (xs ++ ys) o t [] put first refl refl ∙ ap (λ l. l ++ put) (append-nil o)) ∙ append_assoc o put rest in
    sym (ap (take (length o + min n (length put))) whole ∙ take-append-add o (put ++ rest) (min n (length put)) ∙ ap (λ l. o ++ l) (take-append-le (min n (length put)) put rest (omega arith) ∙ take_min n put))

pub puts_none : (a : State) → Puts a a []
puts_none a = record { out = []; sent = appends_none a.written; left = append-nil a.stage; count = omega arith }

pub puts_same : (a b : State) (xs ys : List ℕ) → Puts a b xs → xs ≡ ys → Puts a b ys
puts_same a b xs ys puts same = subst (λ (l : List ℕ). Puts a b l) same puts

pub puts_then : (a b c : State) (xs ys zs : List ℕ) → Puts a b xs → Puts b c ys → xs ++ ys ≡ zs → Puts a c zs
puts_then a b c xs ys zs first next joined = record {
  out = first.out ++ next.out;
  sent = appends_then a.written b.written c.written first.out next.out (first.out ++ next.out) first.sent next.sent refl;
  left = shifted a.stage xs ys zs first.out b.stage next.out c.stage first.left next.left joined;
  count = omega (arith, first.count, next.count);
}

pub stops_then : (a b c : State) (xs ys rest zs : List ℕ) → Puts a b xs → Stops b c ys → (xs ++ ys) ++ rest ≡ zs → Stops a c zs
stops_then a b c xs ys rest zs first next joined = record {
  n = length first.out + min next.n (length (b.stage ++ ys));
  sent = appends_then a.written b.written c.written first.out (take next.n (b.stage ++ ys)) _ first.sent next.sent
      (front_of_whole a.stage xs ys rest zs first.out b.stage next.n first.left joined);
  count = omega (arith, first.count, next.count);
  cause = omega (arith, first.count, next.cause);
}

-- a front of a part is a front of the whole
pub stops_early : (a b : State) (xs rest zs : List ℕ) → Stops a b xs → xs ++ rest ≡ zs → Stops a b zs
stops_early a b xs rest zs stop joined = stops_then a a b [] xs rest zs (puts_none a) stop joined

pub sends_then : {T E : Type 0} (a b : State) (r : Result T E) (c : State) (xs ys zs : List ℕ) → Puts a b xs → Sends b r c ys → xs ++ ys ≡ zs → Sends a r c zs
sends_then a b (Ok _) c xs ys zs first next joined = puts_then a b c xs ys zs first next joined
sends_then a b (Err _) c xs ys zs first next joined = stops_then a b c xs ys [] zs first next (append-nil (xs ++ ys) ∙ joined)

-- a part of a whole was put, and this rest of it was not
pub record Leaves (a b : State) (rest whole : List ℕ) : Type 0 where
  pub bytes : List ℕ
  pub puts : Puts a b bytes
  pub joined : bytes ++ rest ≡ whole

pub leaves_all : (a : State) (whole : List ℕ) → Leaves a a whole whole
leaves_all a whole = record { bytes = []; puts = puts_none a; joined = refl }

pub leaves_same : (a b : State) (rest whole more all : List ℕ) → Leaves a b rest whole → rest ≡ more → whole ≡ all → Leaves a b more all
leaves_same a b rest whole more all part left same = record {
  bytes = part.bytes;
  puts = part.puts;
  joined = ap (λ l. part.bytes ++ l) (sym left) ∙ part.joined ∙ same;
}

pub leaves_less : (a b c : State) (ys rest more whole : List ℕ) → Leaves a b rest whole → Puts b c ys → rest ≡ ys ++ more → Leaves a c more whole
leaves_less a b c ys rest more whole part next cut = record {
  bytes = part.bytes ++ ys;
  puts = puts_then a b c part.bytes ys (part.bytes ++ ys) part.puts next refl;
  joined = append_assoc part.bytes ys more ∙ ap (λ l. part.bytes ++ l) (sym cut) ∙ part.joined;
}

pub leaves_stop : (a b c : State) (ys rest more whole : List ℕ) → Leaves a b rest whole → Stops b c ys → rest ≡ ys ++ more → Stops a c whole
leaves_stop a b c ys rest more whole part stop cut =
    stops_then a b c part.bytes ys more whole part.puts stop (append_assoc part.bytes ys more ∙ ap (λ l. part.bytes ++ l) (sym cut) ∙ part.joined)

pub leaves_last : {T E : Type 0} (a b : State) (r : Result T E) (c : State) (rest whole : List ℕ) → Leaves a b rest whole → Sends b r c rest → Sends a r c whole
leaves_last a b r c rest whole part last = sends_then a b r c part.bytes rest whole part.puts last part.joined

pub leaves_none : (a b : State) (rest whole : List ℕ) → Leaves a b rest whole → rest ≡ [] → Puts a b whole
leaves_none a b rest whole part none =
    let same : part.bytes ≡ whole = sym (append-nil part.bytes) ∙ ap (λ l. part.bytes ++ l) (sym none) ∙ part.joined in
    puts_same a b part.bytes whole part.puts same

emptied : (a : State) → a.stage ≡ [] → record a { stage = [] } ≡ a
emptied a none = ap (λ (s : List ℕ). record a { stage = s }) (sym none)

-- bytes that the sink takes where none wait
pub handed : {T E : Type 0} (a b c : State) (r : Result T E) (bytes : List ℕ) → Puts a b [] → b.stage ≡ [] → c.stage ≡ []
    → Sends (record b { stage = [] }) r (record c { stage = [] }) bytes → Sends a r c bytes
handed a b c r bytes first none none_after last =
    sends_then a b r c [] bytes bytes first
    (subst (λ (s : State). Sends b r s bytes) (emptied c none_after) (subst (λ (s : State). Sends s r (record c { stage = [] }) bytes) (emptied b none) last)) refl

-- what the whole did to the sink, where no byte waited before it, and none after it
pub sends_done : {T E : Type 0} (a : State) (r : Result T E) (c : State) (bytes : List ℕ) → a.stage ≡ [] → OnOk r (c.stage ≡ []) → Sends a r c bytes
    → OnOk r (Appends a.written c.written bytes)
sends_done a (Ok _) c bytes none none_after puts =
    let all : bytes ≡ puts.out = ap (λ s. s ++ bytes) (sym none) ∙ puts.left ∙ ap (λ s. puts.out ++ s) none_after ∙ append-nil puts.out in
    subst (λ (l : List ℕ). Appends a.written c.written l) (sym all) puts.sent
sends_done a (Err _) c bytes none none_after stops = tt

pub sends_part : {T E : Type 0} (a : State) (r : Result T E) (c : State) (bytes : List ℕ) → a.stage ≡ [] → Sends a r c bytes
    → OnErr r ((n : ℕ) × Appends a.written c.written (take n bytes))
sends_part a (Ok _) c bytes none puts = tt
sends_part a (Err _) c bytes none stops = (stops.n, subst (λ (s : List ℕ). Appends a.written c.written (take stops.n (s ++ bytes))) none stops.sent)

pub sends_count : {T E : Type 0} (a : State) (r : Result T E) (c : State) (bytes : List ℕ) → Sends a r c bytes → a.faults ≤ c.faults
sends_count a (Ok _) c bytes puts = puts.count
sends_count a (Err _) c bytes stops = stops.count

pub sends_cause : {T E : Type 0} (a : State) (r : Result T E) (c : State) (bytes : List ℕ) → Sends a r c bytes → OnErr r (Rose a.faults c.faults)
sends_cause a (Ok _) c bytes puts = tt
sends_cause a (Err _) c bytes stops = stops.cause
