-- What a server has served in the end.
use Rattle.std.proofs.Common.{◌≡◌, ℕ, ◌≤◌, List, [], Option, refl, sym, subst, arith, map}
use Rattle.std.proofs.Math.Logic.{∥∥₁_map}
use Rattle.mx_serve.specs.OfEngine.Shown.{stores_of}
use Rattle.mx_serve.specs.OfEngine.EnginePass.{EnginePass}
use Rattle.mx_fold.specs.Lists.{Histories}
use Rattle.mx_serve.proofs.Rooms.{all_lawful}
use Rattle.mx_serve.proofs.Together.{sessions_agree}
use Rattle.mx_ids.specs.Memory.{refused_memory}
use Rattle.mx_pool.specs.Connections.{Change, Ends, HaveServed, Service, change, session_of}
use Rattle.mx_pool.specs.Serving.{AreBegun, HasServed, IsGiven}
use Rattle.mx_pool.specs.declared.serving.Served.{Served}
use Rattle.mx_pool.specs.declared.serving.Served.TheVariants as served
use Rattle.mx_pool.proofs.Counting.{taken_none}
use Rattle.mx_pool.proofs.Gathered.{all_begun}

module _ {L P : Type 0} (left : L → Option (List P)) (service : Service) where
  -- nothing, where there was no memory to begin
  pub begun_none : (IsKind : Ends → Type 0) (pairs : Option (List P)) (starts : ℕ) (seen : Histories)
      → ∥ ((n : ℕ) × AreBegun left (change pairs pairs) (change starts starts) (served.Memory refused_memory) n × HaveServed service IsKind seen n) ∥₁
  begun_none IsKind pairs starts seen = ∣ (0, record { starts_are = refl; taken = λ tells. taken_none pairs }, ([], refl, tt)) ∣₁

  -- all that the book counts, where the share has all parts
  pub begun_all : (IsKind : Ends → Type 0) (pairs : Change (Option (List P))) (starts : Change ℕ) (how : Served) (seen : Histories) (total amount parts all : ℕ)
      → AreBegun left pairs starts how total → (parts ≡ all → amount ≡ total) → all ≤ parts → parts ≤ all → ∥ HaveServed service IsKind seen amount ∥₁
      → ∥ ((n : ℕ) × AreBegun left pairs starts how n × HaveServed service IsKind seen n) ∥₁
  begun_all IsKind pairs starts how seen total amount parts all begun whole low high h =
      let parts_are : parts ≡ all = omega (arith, low, high) in
      ∥∥₁_map h (λ x. (total, begun, subst (λ k. HaveServed service IsKind seen k) (whole parts_are) x))

  -- the headline over all of them
  pub has_served : (ends : P → Ends) (pairs : Change (Option (List P))) (starts : Change ℕ) (how : Served) (p : EnginePass)
      → ∥ ((n : ℕ) × AreBegun left pairs starts how n × HaveServed service (IsGiven left ends pairs.before) (stores_of p) n) ∥₁ → ∥ HasServed service left ends pairs starts how (stores_of p) ∥₁
  has_served ends pairs starts how p h = ∥∥₁_map h (λ x. let cs = x.2.0 in record {
    connections = cs;
    served = x.2.2;
    begun = subst (λ k. AreBegun left pairs starts how k) (sym x.2.1) x.1;
    together = sessions_agree service.site service.stops (stores_of p) (map session_of cs) (all_begun service (IsGiven left ends pairs.before) (stores_of p) cs x.2.2) (all_lawful p);
  })
