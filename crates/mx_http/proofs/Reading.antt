-- What a reader's calls do to what is ahead of it.
use Rattle.std.proofs.Common.{◌≡◌, ℕ, ◌+◌, ◌-◌, ◌<◌, ◌≤◌, ◌⊎◌, inl, inr, ⊎_elim, Option, Some, None, Result, Ok, Err, List, ◌++◌, length, take, drop, slice_range, sym, ap, subst, ◌∙◌, arith, append_assoc, length-append, take-append-drop}
use Rattle.std.specs.Io.KnownBytes.{prepend_known, Consumes, Keeps, IsAtEnd}
use Rattle.std.proofs.lemmas.List.{length-take-le}
use Rattle.std.proofs.Math.Seq.{take-append-add, drop-append_seam}
use Rattle.httparse.specs.Grammar.{print_request}
use Rattle.mx_http.specs.declared.call.Call.{Call}
use Rattle.mx_http.specs.declared.head.Head.{Head}
use Rattle.mx_http.specs.declared.fault.HttpFault.{HttpFault}
use Rattle.mx_http.specs.declared.fault.HttpFault.TheVariants as faults
use Rattle.mx_http.specs.Calls.{HasSize, IsBlank, IsCall, IsOpenHead, IsUnfinished}
use Rattle.mx_http.specs.Parts.{EndsWith, FindsHead, GivesHead, HasParts, Lacks, with_body}
use Rattle.mx_http.specs.Reads.{CountsFault, CountsReadFault, Fails, Reads}
use Rattle.mx_http.specs.Window.{IsFillFault}
use Rattle.mx_http.proofs.Unique.{HasHead-append, not_blank}

-- ---- one request

more_parts : (held more : List ℕ) (parts : Head) (x : HasParts held parts) → HasParts (held ++ more) parts
more_parts held more parts x = record {
  head = x.head;
  rest = x.rest ++ more;
  has_head = HasHead-append held more x.head x.rest x.has_head;
  has_size = x.has_size;
  len = x.len;
  says = x.says;
}

pub given_parts : (left : Option (List ℕ)) (held : List ℕ) (found : Option Head) (parts : Head) → found ≡ Some parts → GivesHead held left (Ok found) → HasParts held parts
given_parts left held found parts e h = subst (λ o. GivesHead held left (Ok o)) e h

pub parts_now : (held now more : List ℕ) (parts : Head) → HasParts held parts → now ≡ held ++ more → HasParts now parts
parts_now held now more parts x e = subst (λ l. HasParts l parts) (sym e) (more_parts held more parts x)

-- a head and a part of its body
pub body_cut : (held : List ℕ) (parts : Head) → HasParts held parts → length held < parts.len + parts.size → IsUnfinished held × (IsBlank held → ⊥)
body_cut held parts x short = (
  inr record {
    head = x.head;
    rest = x.rest;
    size = parts.size;
    has_head = x.has_head;
    has_size = x.has_size;
    lacks = omega (arith, short, x.len, ap length x.has_head.reads.1, length-append (print_request x.head) x.rest);
  },
  not_blank held x.head x.rest x.has_head,
)

pub body_failed : (first new left : Option (List ℕ)) (held : List ℕ) (parts : Head) (e : HttpFault) → Keeps first new → HasParts held parts
    → Lacks held (parts.len + parts.size) left e → Reads first new held left (Err e)
body_failed first new left held parts faults.Head p x l = absurd l
body_failed first new left held parts faults.HeadTooLong p x l = absurd l
body_failed first new left held parts faults.BodyTooLong p x l = absurd l
body_failed first new left held parts faults.BadLength p x l = absurd l
body_failed first new left held parts faults.Coding p x l = absurd l
body_failed first new left held parts faults.Cut p x l = let short = body_cut held parts x l.0 in (p, (short.0, short.1, l.1))
body_failed first new left held parts faults.ReadFault p x l = (p, inr (body_cut held parts x l).0)
body_failed first new left held parts (faults.Memory _) p x l = (p, tt)

-- ---- one head

-- no head may be answered
pub found_fails : (held : List ℕ) (left : Option (List ℕ)) (e : HttpFault) → FindsHead held (Err e) → Fails held left e
found_fails held left faults.Head x = x
found_fails held left faults.HeadTooLong x = x
found_fails held left faults.BodyTooLong x = x
found_fails held left faults.BadLength x = x
found_fails held left faults.Coding x = x
found_fails held left faults.Cut x = absurd x
found_fails held left faults.ReadFault x = absurd x
found_fails held left (faults.Memory _) x = tt

-- the source failed where no head was whole yet
pub fill_fails : (held : List ℕ) (left : Option (List ℕ)) (e : HttpFault) → IsOpenHead held ⊎ IsBlank held → IsFillFault e → Fails held left e
fill_fails held left faults.Head o x = absurd x
fill_fails held left faults.HeadTooLong o x = absurd x
fill_fails held left faults.BodyTooLong o x = absurd x
fill_fails held left faults.BadLength o x = absurd x
fill_fails held left faults.Coding o x = absurd x
fill_fails held left faults.Cut o x = absurd x
fill_fails held left faults.ReadFault o x = ⊎_elim (λ (h : IsOpenHead held). inr (inl h)) (λ (b : IsBlank held). inl b) o
fill_fails held left (faults.Memory _) o x = tt

-- or where more was wanted
pub fill_lacks : (held : List ℕ) (wanted : ℕ) (left : Option (List ℕ)) (e : HttpFault) → length held < wanted → IsFillFault e → Lacks held wanted left e
fill_lacks held wanted left faults.Head short x = absurd x
fill_lacks held wanted left faults.HeadTooLong short x = absurd x
fill_lacks held wanted left faults.BodyTooLong short x = absurd x
fill_lacks held wanted left faults.BadLength short x = absurd x
fill_lacks held wanted left faults.Coding short x = absurd x
fill_lacks held wanted left faults.Cut short x = absurd x
fill_lacks held wanted left faults.ReadFault short x = short
fill_lacks held wanted left (faults.Memory _) short x = tt

-- the source has ended
pub ended_gives : (held : List ℕ) (left : Option (List ℕ)) (r : Result (Option Head) HttpFault) → IsAtEnd left → EndsWith held r → GivesHead held left r
ended_gives held left (Ok (Some parts)) end x = absurd x
ended_gives held left (Ok None) end x = (x, end)
ended_gives held left (Err faults.Head) end x = absurd x
ended_gives held left (Err faults.HeadTooLong) end x = absurd x
ended_gives held left (Err faults.BodyTooLong) end x = absurd x
ended_gives held left (Err faults.BadLength) end x = absurd x
ended_gives held left (Err faults.Coding) end x = absurd x
ended_gives held left (Err faults.Cut) end x = (x.0, x.1, end)
ended_gives held left (Err faults.ReadFault) end x = absurd x
ended_gives held left (Err (faults.Memory _)) end x = absurd x

pub ended_counts : (held : List ℕ) (before now : ℕ) (r : Result (Option Head) HttpFault) → now ≡ before → EndsWith held r → CountsReadFault r before now
ended_counts held before now (Ok found) same x = same
ended_counts held before now (Err faults.Head) same x = same
ended_counts held before now (Err faults.HeadTooLong) same x = same
ended_counts held before now (Err faults.BodyTooLong) same x = same
ended_counts held before now (Err faults.BadLength) same x = same
ended_counts held before now (Err faults.Coding) same x = same
ended_counts held before now (Err faults.Cut) same x = same
ended_counts held before now (Err faults.ReadFault) same x = tt
ended_counts held before now (Err (faults.Memory _)) same x = same

pub same_counts : (e : HttpFault) (before now : ℕ) → now ≡ before → CountsFault e before now
same_counts faults.Head before now same = same
same_counts faults.HeadTooLong before now same = same
same_counts faults.BodyTooLong before now same = same
same_counts faults.BadLength before now same = same
same_counts faults.Coding before now same = same
same_counts faults.Cut before now same = same
same_counts faults.ReadFault before now same = tt
same_counts (faults.Memory _) before now same = same

-- what a request takes
front_goes : (first left : Option (List ℕ)) (held : List ℕ) (n : ℕ) → Keeps first (prepend_known held left) → Consumes first (prepend_known (drop n held) left) (take n held)
front_goes None left held n p = tt
front_goes (Some x) None held n p = absurd p
front_goes (Some x) (Some y) held n p = sym p ∙ ap (λ l. l ++ y) (sym (take-append-drop n held)) ∙ append_assoc (take n held) (drop n held) y

whole_call : (held body : List ℕ) (parts : Head) (n : ℕ) → HasParts held parts → n ≡ parts.len + parts.size → n ≤ length held → body ≡ slice_range held parts.len n
    → IsCall (take n held) (with_body parts body)
whole_call held body parts n x size fits is =
    let front = print_request x.head in
    let said : n ≡ length front + parts.size = omega (arith, size, x.len) in
    let room : parts.size ≤ length x.rest = omega (arith, fits, said, ap length x.has_head.reads.1, length-append front x.rest) in
    let made : body ≡ take parts.size x.rest =
    is ∙ ap (λ k. take k (drop parts.len held)) (let e : n - parts.len ≡ parts.size = omega (arith, size) in e)
    ∙ ap (λ k. take parts.size (drop k held)) x.len ∙ ap (λ l. take parts.size (drop (length front) l)) x.has_head.reads.1 ∙ ap (take parts.size) (drop-append_seam front x.rest) in
    record {
      head = x.head;
      body = body;
      has_head = record {
        reads = (x.has_head.reads.0, ap (take n) x.has_head.reads.1 ∙ ap (λ k. take k (front ++ x.rest)) said ∙ take-append-add front x.rest parts.size ∙ ap (λ l. front ++ l) (sym made));
        short = x.has_head.short;
      };
      has_size = subst (λ k. HasSize x.head k) (sym (ap length made ∙ length-take-le parts.size x.rest room)) x.has_size;
      says = sym (x.says body);
    }

pub call_given : (first left : Option (List ℕ)) (held after body : List ℕ) (parts : Head) (call : Call) (n : ℕ) → Keeps first (prepend_known held left) → HasParts held parts
    → n ≡ parts.len + parts.size → n ≤ length held → body ≡ slice_range held parts.len n → after ≡ drop n held → call ≡ with_body parts body
    → Reads first (prepend_known after left) after left (Ok (Some call))
call_given first left held after body parts call n p x size fits is gone same = (
  take n held,
  subst (λ c. IsCall (take n held) c) (sym same) (whole_call held body parts n x size fits is),
  subst (λ l. Consumes first (prepend_known l left) (take n held)) (sym gone) (front_goes first left held n p),
)
