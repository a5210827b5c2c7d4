-- The locks of an emission in its last circuit: their laws, their steps, and what they commit.
use Rattle.std.proofs.Common.{◌≡◌, ℕ, ◌<◌, true, length}
use Rattle.pdl_semantics.specs.Flat.{Pipe}
use Rattle.pdl_semantics.specs.Stages.{mem_at}
use Rattle.pdl_net.specs.Signal.{Signal}
use Rattle.pdl_net.specs.Growth.{Own}
use Rattle.pdl_law_parts.specs.Walk.{Locks, is_locked}
use Rattle.pdl_law_parts.specs.Views.{View, Gates}
use Rattle.pdl_law_parts.specs.Ports.{Commits, step_of}
use Rattle.pdl_law_parts.specs.Compiled.{GoesOn}
use Rattle.pdl_law_parts.proofs.StageLooks.{lock_there}
use Rattle.pdl_law_sides.specs.WholeNetlist.{StartsLock, IsNet}
use Rattle.pdl_pipe_walk.specs.Locked.{Members, some_at, locks_in, AreLocked}
use Rattle.pdl_pipe_walk.proofs.MadeLocks.{locks_same}
use Rattle.pdl_pipe_nexts.specs.Lines.{line_pipe}
use Rattle.pdl_pipe_locks.specs.Lawful.{AreLawful}
use Rattle.pdl_pipe_locks.specs.Stepped.{own_of, AreStepped, commits_in}
use Rattle.pdl_pipe_locks.proofs.LockGrowth.{Stays, locked_kept, laws_kept}
use Rattle.pdl_pipe_locks.proofs.Law as law
use Rattle.pdl_pipe_emitted.specs.Emitted.{Nets, Emission, locks_of, views_of, moves_of, gates_of}
use Rattle.pdl_pipe_emitted.proofs.LaidGrowth.{keeps_ad, lock_kept}
use Rattle.pdl_pipe_emitted.proofs.LaidDeeds.{are_of, are_gates, deeds_count}

module _ {T : Type 0} (l : Members T) (stays : Stays l) (n : Nets T) (em : Emission l n) where
  abbrev p : Pipe
  p = line_pipe n.line

  abbrev ls : Locks
  ls = locks_of l n em

  abbrev vs : ℕ → View
  vs = views_of l n em

  abbrev gates : Gates
  gates = gates_of l n em

  abbrev goes : ℕ → Signal
  goes = moves_of l n em

  abbrev owned : ℕ → Own
  owned m = own_of (some_at n.locks m)

  abbrev commits : ℕ → Commits
  commits = commits_in em.d n.commits

  -- ---- they are what they were before the stages

  -- the locks are in the last circuit what they were in the first
  pub locks_made : locks_in l p em.d n.locks ≡ ls
  locks_made = locks_same l em.a em.d (keeps_ad l n em) stays p n.locks em.layout.locked

  -- each memory has its array and its lock in the last circuit
  pub locked_made : AreLocked l em.d p n.locks
  locked_made = locked_kept l em.a em.d p n.locks (keeps_ad l n em) stays em.layout.locked

  -- the locks of all memories keep their laws in the last circuit
  pub lawful_made : AreLawful l em.d p n.locks
  lawful_made = laws_kept l em.a em.d p n.locks (keeps_ad l n em) em.layout.locked em.layout.lawful

  -- ---- their steps

  -- each lock has made its step in the last circuit, by what the stages do to it
  pub stepped_made : AreStepped l em.d p (step_of p vs gates goes) n.locks n.commits (length p.mems)
  stepped_made = record {
    count = em.stepped.count;
    each = λ m low.
        law.stepped_here l stays p n.locks n.deeds n.moves.squash n.tails.cut n.commits vs gates goes em.a em.h em.i em.d
        em.layout.locked em.layout.lawful (deeds_count l n em) (are_of l n em)
        (are_gates l n em) em.stepped (keeps_ad l n em) em.keeps m low (lock_kept l n em m low);
  }

  module _ (m : ℕ) (h : is_locked p m ≡ true) where
    low : m < length p.mems
    low = lock_there p m h

    -- a lock goes on by its law
    pub goes_on : GoesOn p ls em.d vs gates goes (owned m) (commits m) m
    goes_on =
        law.goes_on l stays p n.locks n.deeds n.moves.squash n.tails.cut n.commits vs gates goes em.a em.h em.i em.d
        em.layout.locked em.layout.lawful (deeds_count l n em) (are_of l n em)
        (are_gates l n em) em.stepped (keeps_ad l n em) em.keeps m low (lock_kept l n em m low) h

    -- a lock starts with its memory's image
    pub starts_lock : StartsLock p ls em.d (owned m).from (owned m).to m
    starts_lock = record {
      deep =
          law.deep l stays p n.locks n.deeds n.moves.squash n.tails.cut n.commits vs gates goes em.a em.h em.i em.d
          em.layout.locked em.layout.lawful (deeds_count l n em) (are_of l n em)
          (are_gates l n em) em.stepped (keeps_ad l n em) em.keeps m low (lock_kept l n em m low) h;
      starts =
          law.starts l stays p n.locks n.deeds n.moves.squash n.tails.cut n.commits vs gates goes em.a em.h em.i em.d
          em.layout.locked em.layout.lawful (deeds_count l n em) (are_of l n em)
          (are_gates l n em) em.stepped (keeps_ad l n em) em.keeps m low (lock_kept l n em m low) h;
    }

    -- what a memory with a lock commits has the memory's widths
    pub fits_at : law.BothFit (mem_at p m) (commits m)
    fits_at =
        law.commit_fits l stays p n.locks n.deeds n.moves.squash n.tails.cut n.commits vs gates goes em.a em.h em.i em.d
        em.layout.locked em.layout.lawful (deeds_count l n em) (are_of l n em)
        (are_gates l n em) em.stepped (keeps_ad l n em) em.keeps m low (lock_kept l n em m low) h

    -- the words that a memory with a lock commits are nets
    pub words_at : IsNet em.d (commits m).first.value × IsNet em.d (commits m).second.value
    words_at =
        law.commit_words l stays p n.locks n.deeds n.moves.squash n.tails.cut n.commits vs gates goes em.a em.h em.i em.d
        em.layout.locked em.layout.lawful (deeds_count l n em) (are_of l n em)
        (are_gates l n em) em.stepped (keeps_ad l n em) em.keeps m low (lock_kept l n em m low) h
