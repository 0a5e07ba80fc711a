-- A server that serves by loops: its status and its lines.
use Rattle.std.proofs.Common.{◌≡◌, ◌⊎◌, ℕ, List, Option, Some, inl, inr, sym, subst, ◌∙◌}
use Rattle.mx_ids.specs.Memory.{refused_memory}
use Rattle.mx_loop.specs.Looped.{EndsFor}
use Rattle.mx_loop.specs.declared.looping.Looped.{Looped}
use Rattle.mx_loop.specs.declared.looping.Looped.TheVariants as looped
use Rattle.mx_outside.specs.Causes.{Rose}
use Rattle.mx_pool.specs.Lines.{Tells, line_of, shown, unkept_text}
use Rattle.mx_pool.specs.Runs.{TellsBound, TellsServer, TellsUnbound, looped_status}
use Rattle.mx_pool.specs.Serving.{HasNoneLeft, IsServerStatus}
use Rattle.mx_pool.specs.declared.status.Status.{Status}
use Rattle.mx_pool.specs.declared.status.Status.TheVariants as status

-- ---- the status

pub loops_only : (how : Looped) (s : Status) → s ≡ looped_status how → IsServerStatus s
loops_only how s is = subst IsServerStatus (sym is) (go how)
  where
    go : (how : Looped) → IsServerStatus (looped_status how)
    go looped.Closed = tt
    go looped.ListenFailed = tt
    go (looped.Memory _) = tt

module _ {Q : Type 0} (left : Option (List Q)) (before after : ℕ) where
  pub loops_closed : (how : Looped) (s : Status) → s ≡ looped_status how → EndsFor how left before after → s ≡ status.Done → HasNoneLeft left
  loops_closed how s is h done = go how h (sym is ∙ done)
    where
      go : (how : Looped) → EndsFor how left before after → looped_status how ≡ status.Done → HasNoneLeft left
      go looped.Closed h e = h
      go looped.ListenFailed h e = absurd cc
      go (looped.Memory _) h e = absurd cc

  pub loops_rose : (how : Looped) (s : Status) → s ≡ looped_status how → EndsFor how left before after → s ≡ status.Listener → Rose before after
  loops_rose how s is h listener = go how h (sym is ∙ listener)
    where
      go : (how : Looped) → EndsFor how left before after → looped_status how ≡ status.Listener → Rose before after
      go looped.Closed h e = absurd cc
      go looped.ListenFailed h e = h
      go (looped.Memory _) h e = absurd cc

-- ---- the lines

-- the line of an address that isn't bound
pub unbound_loops : (says address : List ℕ) (old new : Option (List ℕ)) (f h : ℕ) (s : Status) → (s ≡ status.Listener) ⊎ (s ≡ status.Memory refused_memory) → Tells old new f h (line_of s (Some (shown address)))
    → TellsBound says address old new f h s
unbound_loops says address old new f h s (inl is) line = subst (λ t. TellsBound says address old new f h t) (sym is) (inl (subst (λ t. Tells old new f h (line_of t (Some (shown address)))) is line))
unbound_loops says address old new f h s (inr is) line = subst (λ t. TellsBound says address old new f h t) (sym is) (inl (subst (λ t. Tells old new f h (line_of t (Some (shown address)))) is line))

-- those of a server without a journal
unbound_server : (file address : List ℕ) (old new : Option (List ℕ)) (f h : ℕ) (s : Status) → TellsUnbound address old new f h s → TellsServer file address old new f h s
unbound_server file address old new f h status.Done t = absurd t
unbound_server file address old new f h status.RequestStream t = absurd t
unbound_server file address old new f h status.Usage t = absurd t
unbound_server file address old new f h (status.UsersFile n) t = absurd t
unbound_server file address old new f h status.Outside t = absurd t
unbound_server file address old new f h (status.Memory _) t = inl (t, λ e. cc)
unbound_server file address old new f h status.Listener t = inl (t, λ e. cc)
unbound_server file address old new f h (status.Journal fault) t = absurd t

pub bound_server : (file address : List ℕ) (old new : Option (List ℕ)) (f h : ℕ) (s : Status) → TellsBound unkept_text address old new f h s → TellsServer file address old new f h s
bound_server file address old new f h s (inl unbound) = unbound_server file address old new f h s unbound
bound_server file address old new f h s (inr two) = inr two
