-- The requests that bytes begin with, and how they go on, are determined by the bytes.
use Rattle.std.proofs.Common.{◌≡◌, ℕ, ◌+◌, ◌-◌, ◌<◌, ◌⊎◌, inl, inr, ⊎_elim, ◌||◌, ◌==◌, IsTrue, true, false, List, [], ◌∷◌, ◌++◌, length, take, drop, refl, sym, ap, subst, ◌∙◌, arith, append-nil, append_assoc, length-append, take-append-drop}
use Rattle.std.specs.List.{All}
use Rattle.std.proofs.lemmas.List.{take-append-le, take_all}
use Rattle.std.proofs.lemmas.List.Elements.{All-head, All-tail}
use Rattle.std.proofs.Math.Seq.{take-append-add}
use Rattle.httparse.specs.Grammar.{RequestHead, print_request, HasNoRequest, MayBecomeRequest, NeverHasRequest, ReadsRequest, print_blank, print_version, print_end, print_section}
use Rattle.httparse.proofs.GrammarLemmas.{request_unique, ReadsRequest-append, print_request-append}
use Rattle.mx_http.specs.declared.call.Call.{Call}
use Rattle.mx_http.specs.declared.fault.HttpFault.{HttpFault}
use Rattle.mx_http.specs.declared.fault.HttpFault.TheVariants as faults
use Rattle.mx_http.specs.Fields.{pairs_of, body_size}
use Rattle.mx_http.specs.Calls.{AreCalls, HasBadSize, HasFault, HasHead, HasLongHead, HasSize, IsBlank, IsCall, IsClosed, IsFaulty, IsOpenBody, IsOpenHead, IsRest, IsUnfinished, Splits, call_of, head_limit}

-- ---- heads

pub HasHead-append : (bytes more : List ℕ) (h : RequestHead) (rest : List ℕ) → HasHead bytes h rest → HasHead (bytes ++ more) h (rest ++ more)
HasHead-append bytes more h rest x = record { reads = ReadsRequest-append bytes h rest more x.reads; short = x.short }

pub HasHead_unique : (bytes : List ℕ) (h k : RequestHead) (r q : List ℕ) → HasHead bytes h r → HasHead bytes k q → (h ≡ k) × (r ≡ q)
HasHead_unique bytes h k r q x y = request_unique bytes h k r q x.reads y.reads

-- a head that is short stands in the first bytes that it may take
stands_within : (bytes : List ℕ) (h : RequestHead) (rest : List ℕ) → HasHead bytes h rest
    → ReadsRequest (take head_limit bytes) h (take (head_limit - length (print_request h)) rest)
stands_within bytes h rest x =
    let size : head_limit ≡ length (print_request h) + (head_limit - length (print_request h)) = omega (arith, x.short) in
    (x.reads.0, ap (take head_limit) x.reads.1 ∙ ap (λ n. take n (print_request h ++ rest)) size ∙ take-append-add (print_request h) rest (head_limit - length (print_request h)))

-- a head that never comes isn't there
pub none_from_never : (bytes : List ℕ) → NeverHasRequest bytes → HasNoRequest bytes
none_from_never bytes never h rest x = never [] h rest (x.0, append-nil bytes ∙ x.1)

closed_has_no_head : (bytes : List ℕ) (h : RequestHead) (rest : List ℕ) → HasHead bytes h rest → IsClosed (take head_limit bytes) → ⊥
closed_has_no_head bytes h rest x c = none_from_never (take head_limit bytes) c.never h _ (stands_within bytes h rest x)

long_has_no_head : (bytes : List ℕ) (h : RequestHead) (rest : List ℕ) → HasHead bytes h rest → HasLongHead bytes → ⊥
long_has_no_head bytes h rest x long = long.none h _ (stands_within bytes h rest x)

all_behind : (P : ℕ → Type 0) (xs ys : List ℕ) → All P (xs ++ ys) → All P ys
all_behind P [] ys all = all
all_behind P (x ∷ xs) ys all = all_behind P xs ys (All-tail P x (xs ++ ys) all)

-- the space behind the method is no line end
pub not_blank : (bytes : List ℕ) (h : RequestHead) (rest : List ℕ) → HasHead bytes h rest → IsBlank bytes → ⊥
not_blank bytes h rest x blank =
    let P : ℕ → Type 0 = λ b. IsTrue (b == 13 || b == 10) in
    let more = h.target ++ 32 ∷ (print_version h.minor ++ (print_end h.line_end ++ (print_section h.fields h.last ++ rest))) in
    let all = subst (All P) (x.reads.1 ∙ print_request-append h rest) blank.1 in
    let space : IsTrue (32 == 13 || 32 == 10) = All-head P 32 more (all_behind P h.method (32 ∷ more) (all_behind P (print_blank h.blank) _ all)) in
    let no : false ≡ true = space in cc

-- ---- sizes

HasSize_unique : (h k : RequestHead) (m n : ℕ) → h ≡ k → HasSize h m → HasSize k n → m ≡ n
HasSize_unique h k m n same x y =
    let e = sym x ∙ ap (λ (t : RequestHead). body_size (pairs_of t.fields)) same ∙ y in
    cc

bad_size_same : (bytes : List ℕ) (fault other : HttpFault) → HasBadSize bytes fault → HasBadSize bytes other → fault ≡ other
bad_size_same bytes fault other x y =
    let same = HasHead_unique bytes x.head y.head x.rest y.rest x.has_head y.has_head in
    let e = sym x.says ∙ ap (λ (t : RequestHead). body_size (pairs_of t.fields)) same.0 ∙ y.says in
    cc

-- ---- one request

split_same : (xs ys us vs : List ℕ) → length xs ≡ length ys → xs ++ us ≡ ys ++ vs → (xs ≡ ys) × (us ≡ vs)
split_same [] [] us vs len e = (refl, e)
split_same [] (y ∷ ys) us vs len e = absurd (omega arith)
split_same (x ∷ xs) [] us vs len e = absurd (omega arith)
split_same (x ∷ xs) (y ∷ ys) us vs len e =
    let later = split_same xs ys us vs (omega arith) (cc) in
    let first : x ≡ y = cc in
    (λ i. first i ∷ later.0 i, later.1)

first_head : (front more : List ℕ) (call : Call) (x : IsCall front call) → HasHead (front ++ more) x.head (x.body ++ more)
first_head front more call x = HasHead-append front more x.head x.body x.has_head

first_same : (front other after later : List ℕ) (call fellow : Call) → front ++ after ≡ other ++ later → IsCall front call → IsCall other fellow
    → (call ≡ fellow) × (after ≡ later)
first_same front other after later call fellow e x y =
    let mine = first_head front after call x in
    let theirs = subst (λ l. HasHead l y.head (y.body ++ later)) (sym e) (first_head other later fellow y) in
    let same = HasHead_unique (front ++ after) x.head y.head (x.body ++ after) (y.body ++ later) mine theirs in
    let bodies = split_same x.body y.body after later (HasSize_unique x.head y.head (length x.body) (length y.body) same.0 x.has_size y.has_size) same.1 in
    (x.says ∙ (λ i. call_of (same.0 i) (bodies.0 i)) ∙ sym y.says, bodies.1)

-- ---- what may follow the last request

open_head_fails : (bytes : List ℕ) (h : RequestHead) (rest : List ℕ) → HasHead bytes h rest → IsOpenHead bytes → ⊥
open_head_fails bytes h rest x o = o.none h rest x.reads

open_body_size : (bytes : List ℕ) (h : RequestHead) (rest : List ℕ) (size : ℕ) → HasHead bytes h rest → HasSize h size → IsOpenBody bytes → length rest < size
open_body_size bytes h rest size x s o =
    let same = HasHead_unique bytes h o.head rest o.rest x o.has_head in
    omega (arith, o.lacks, ap length same.1, HasSize_unique h o.head size o.size same.0 s o.has_size)

bad_size_fails : (bytes : List ℕ) (h : RequestHead) (rest : List ℕ) (size : ℕ) (fault : HttpFault) → HasHead bytes h rest → HasSize h size → HasBadSize bytes fault → ⊥
bad_size_fails bytes h rest size fault x s bad =
    let same = HasHead_unique bytes h bad.head rest bad.rest x bad.has_head in
    let e = sym s ∙ ap (λ (t : RequestHead). body_size (pairs_of t.fields)) same.0 ∙ bad.says in
    cc

-- the three ways of a fault
abbrev Kinds : List ℕ → HttpFault → Type 0
Kinds bytes fault = ((fault ≡ faults.Head) × IsClosed (take head_limit bytes)) ⊎ (((fault ≡ faults.HeadTooLong) × HasLongHead bytes) ⊎ HasBadSize bytes fault)

kind_of : (bytes : List ℕ) (fault : HttpFault) → HasFault fault bytes → Kinds bytes fault
kind_of bytes faults.Head x = inl (refl, x)
kind_of bytes faults.HeadTooLong x = inr (inl (refl, x))
kind_of bytes faults.BodyTooLong x = inr (inr x)
kind_of bytes faults.BadLength x = inr (inr x)
kind_of bytes faults.Coding x = inr (inr x)
kind_of bytes faults.Cut x = absurd x
kind_of bytes faults.ReadFault x = absurd x
kind_of bytes (faults.Memory _) x = absurd x

-- what no kind of fault allows
by_kind : (bytes : List ℕ) → (IsClosed (take head_limit bytes) → ⊥) → (HasLongHead bytes → ⊥) → ((fault : HttpFault) → HasBadSize bytes fault → ⊥) → IsFaulty bytes → ⊥
by_kind bytes closed long size f = ⊎_elim
    (λ (k : (f.0 ≡ faults.Head) × IsClosed (take head_limit bytes)). closed k.1)
    (λ (k : ((f.0 ≡ faults.HeadTooLong) × HasLongHead bytes) ⊎ HasBadSize bytes f.0). ⊎_elim
    (λ (l : (f.0 ≡ faults.HeadTooLong) × HasLongHead bytes). long l.1)
    (λ (s : HasBadSize bytes f.0). size f.0 s)
    k)
    (kind_of bytes f.0 f.1)

-- bytes that begin with a whole request are no rest
pub whole_is_no_rest : (front more : List ℕ) (call : Call) → IsCall front call → IsRest (front ++ more) → ⊥
whole_is_no_rest front more call x rest =
    let mine = first_head front more call x in
    ⊎_elim (λ (b : IsBlank (front ++ more)). not_blank _ x.head _ mine b)
    (λ (r : IsUnfinished (front ++ more) ⊎ IsFaulty (front ++ more)). ⊎_elim
    (λ (u : IsUnfinished (front ++ more)). ⊎_elim
    (λ (o : IsOpenHead (front ++ more)). open_head_fails _ x.head _ mine o)
    (λ (o : IsOpenBody (front ++ more)). let lacks = open_body_size _ x.head (x.body ++ more) (length x.body) mine x.has_size o in absurd (omega (arith, lacks, length-append x.body more)))
    u)
    (λ (f : IsFaulty (front ++ more)). by_kind (front ++ more)
    (λ c. closed_has_no_head _ x.head _ mine c)
    (λ l. long_has_no_head _ x.head _ mine l)
    (λ fault b. bad_size_fails _ x.head _ (length x.body) fault mine x.has_size b)
    f)
    r)
    rest

-- ---- faults

pub may_not_close : (bytes : List ℕ) → IsClosed bytes → MayBecomeRequest bytes → ⊥
may_not_close bytes c open_end = ⊎_elim
    (λ (m : (more : List ℕ) × (h : RequestHead) × ReadsRequest (bytes ++ more) h []). c.never m.0 m.1 [] m.2)
    c.no_target
    open_end

closed_shuts : (bytes : List ℕ) → IsClosed (take head_limit bytes) → IsUnfinished bytes ⊎ IsBlank bytes → ⊥
closed_shuts bytes closed other = ⊎_elim
    (λ (u : IsUnfinished bytes). ⊎_elim
    (λ (o : IsOpenHead bytes). may_not_close bytes (all o.short) o.open_end)
    (λ (o : IsOpenBody bytes). closed_has_no_head bytes o.head o.rest o.has_head closed)
    u)
    (λ (b : IsBlank bytes). (all b.0).asks b.1)
    other
  where
    all : length bytes < head_limit → IsClosed bytes
    all short = subst IsClosed (take_all head_limit bytes (omega arith)) closed

long_shuts : (bytes : List ℕ) → HasLongHead bytes → IsUnfinished bytes ⊎ IsBlank bytes → ⊥
long_shuts bytes l other = ⊎_elim
    (λ (u : IsUnfinished bytes). ⊎_elim
    (λ (o : IsOpenHead bytes). absurd (omega (arith, o.short, l.long)))
    (λ (o : IsOpenBody bytes). long_has_no_head bytes o.head o.rest o.has_head l)
    u)
    (λ (b : IsBlank bytes). absurd (omega (arith, b.0, l.long)))
    other

bad_size_shuts : (bytes : List ℕ) (fault : HttpFault) → HasBadSize bytes fault → IsUnfinished bytes ⊎ IsBlank bytes → ⊥
bad_size_shuts bytes fault bad other = ⊎_elim
    (λ (u : IsUnfinished bytes). ⊎_elim
    (λ (o : IsOpenHead bytes). open_head_fails bytes bad.head bad.rest bad.has_head o)
    (λ (o : IsOpenBody bytes). bad_size_fails bytes o.head o.rest o.size fault o.has_head o.has_size bad)
    u)
    (λ (b : IsBlank bytes). not_blank bytes bad.head bad.rest bad.has_head b)
    other

-- bytes that are no request, whatever follows, are no part of one and not blank
pub fault_shuts : (bytes : List ℕ) → IsFaulty bytes → IsUnfinished bytes ⊎ IsBlank bytes → ⊥
fault_shuts bytes faulty other = by_kind bytes (λ c. closed_shuts bytes c other) (λ l. long_shuts bytes l other) (λ fault b. bad_size_shuts bytes fault b other) faulty

-- and have one fault
pub fault_same : (bytes : List ℕ) (fault other : HttpFault) → HasFault fault bytes → HasFault other bytes → fault ≡ other
fault_same bytes fault other x y = same (kind_of bytes fault x) (kind_of bytes other y)
  where
    same : Kinds bytes fault → Kinds bytes other → fault ≡ other
    same (inl k) (inl m) = k.0 ∙ sym m.0
    same (inl k) (inr (inl m)) = absurd (m.1.not_closed k.1)
    same (inl k) (inr (inr b)) = absurd (closed_has_no_head bytes b.head b.rest b.has_head k.1)
    same (inr (inl k)) (inl m) = absurd (k.1.not_closed m.1)
    same (inr (inl k)) (inr (inl m)) = k.0 ∙ sym m.0
    same (inr (inl k)) (inr (inr b)) = absurd (long_has_no_head bytes b.head b.rest b.has_head k.1)
    same (inr (inr b)) (inl m) = absurd (closed_has_no_head bytes b.head b.rest b.has_head m.1)
    same (inr (inr b)) (inr (inl m)) = absurd (long_has_no_head bytes b.head b.rest b.has_head m.1)
    same (inr (inr b)) (inr (inr d)) = bad_size_same bytes fault other b d

-- nor do they begin with a request, whatever follows
pub fault_lasts : (bytes more front after : List ℕ) (call : Call) → IsFaulty bytes → bytes ++ more ≡ front ++ after → IsCall front call → ⊥
fault_lasts bytes more front after call f e x =
    let mine = subst (λ l. HasHead l x.head (x.body ++ after)) (sym e) (first_head front after call x) in
    let split : bytes ++ more ≡ take head_limit bytes ++ (drop head_limit bytes ++ more) =
    sym (ap (λ l. l ++ more) (take-append-drop head_limit bytes)) ∙ append_assoc (take head_limit bytes) (drop head_limit bytes) more in
    by_kind bytes
    (λ c. c.never (drop head_limit bytes ++ more) x.head (x.body ++ after) (subst (λ l. ReadsRequest l x.head (x.body ++ after)) split mine.reads))
    (λ l. l.none x.head _ (subst (λ k. ReadsRequest k x.head (take (head_limit - length (print_request x.head)) (x.body ++ after))) (take-append-le head_limit bytes more l.long) (stands_within (bytes ++ more) x.head (x.body ++ after) mine)))
    (λ fault b. bad_size_fails (bytes ++ more) x.head (x.body ++ after) (length x.body) fault mine x.has_size
    record { head = b.head; rest = b.rest ++ more; has_head = HasHead-append bytes more b.head b.rest b.has_head; says = b.says })
    f

-- ---- all requests

calls_same : (calls others : List Call) (front other rest end : List ℕ) → front ++ rest ≡ other ++ end → AreCalls front calls → AreCalls other others
    → IsRest rest → IsRest end → (calls ≡ others) × (rest ≡ end)
calls_same [] [] front other rest end e x y r q = (refl, sym (ap (λ l. l ++ rest) x) ∙ e ∙ ap (λ l. l ++ end) y)
calls_same [] (call ∷ others) front other rest end e x y r q =
    let is : rest ≡ y.0 ++ (y.1 ++ end) = sym (ap (λ l. l ++ rest) x) ∙ e ∙ ap (λ l. l ++ end) y.2 ∙ append_assoc y.0 y.1 end in
    absurd (whole_is_no_rest y.0 (y.1 ++ end) call y.3 (subst IsRest is r))
calls_same (call ∷ calls) [] front other rest end e x y r q =
    let is : end ≡ x.0 ++ (x.1 ++ rest) = sym (ap (λ l. l ++ end) y) ∙ sym e ∙ ap (λ l. l ++ rest) x.2 ∙ append_assoc x.0 x.1 rest in
    absurd (whole_is_no_rest x.0 (x.1 ++ rest) call x.3 (subst IsRest is q))
calls_same (call ∷ calls) (fellow ∷ others) front other rest end e x y r q =
    let is : x.0 ++ (x.1 ++ rest) ≡ y.0 ++ (y.1 ++ end) =
    sym (append_assoc x.0 x.1 rest) ∙ ap (λ l. l ++ rest) (sym x.2) ∙ e ∙ ap (λ l. l ++ end) y.2 ∙ append_assoc y.0 y.1 end in
    let first = first_same x.0 y.0 (x.1 ++ rest) (y.1 ++ end) call fellow is x.3 y.3 in
    let later = calls_same calls others x.1 y.1 rest end first.1 x.4 y.4 r q in
    (λ i. first.0 i ∷ later.0 i, later.1)

-- whole requests at the front of others are the first of them
pub calls_begin : (calls all : List Call) (front more bytes : List ℕ) → bytes ≡ front ++ more → AreCalls front calls → AreCalls bytes all
    → (others : List Call) × (all ≡ calls ++ others) × AreCalls more others
calls_begin [] all front more bytes e x y = (all, refl, subst (λ l. AreCalls l all) (e ∙ ap (λ l. l ++ more) x) y)
calls_begin (call ∷ calls) [] front more bytes e x y =
    let is : [] ≡ x.0 ++ (x.1 ++ more) = sym y ∙ e ∙ ap (λ l. l ++ more) x.2 ∙ append_assoc x.0 x.1 more in
    let blank : IsBlank [] = (omega arith, λ k d lt. absurd (omega (arith, lt))) in
    absurd (whole_is_no_rest x.0 (x.1 ++ more) call x.3 (inl (subst IsBlank is blank)))
calls_begin (call ∷ calls) (fellow ∷ all) front more bytes e x y =
    let is : x.0 ++ (x.1 ++ more) ≡ y.0 ++ y.1 = sym (append_assoc x.0 x.1 more) ∙ sym (ap (λ l. l ++ more) x.2) ∙ sym e ∙ y.2 in
    let first = first_same x.0 y.0 (x.1 ++ more) y.1 call fellow is x.3 y.3 in
    let later = calls_begin calls all x.1 more y.1 (sym first.1) x.4 y.4 in
    (later.0, (λ i. sym first.0 i ∷ later.1 i), later.2)

pub splits_unique : (bytes : List ℕ) (calls others : List Call) (rest end : List ℕ) → Splits bytes calls rest → Splits bytes others end → (calls ≡ others) × (rest ≡ end)
splits_unique bytes calls others rest end x y = calls_same calls others x.front y.front rest end (sym x.whole ∙ y.whole) x.each y.each x.ends y.ends
