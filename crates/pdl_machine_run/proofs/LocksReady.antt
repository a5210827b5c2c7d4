-- Whether the locks let a thread move, by the memories and by the stated machine.
use Rattle.std.proofs.Common.{◌≡◌, refl, sym, ap, ap₂, ◌∙◌, ℕ, Bool, true, ◌&&◌, if◌then◌else◌, List, [], ◌∷◌, length}
use Rattle.pdl_semantics.specs.Flat.{Lock, Pipe, list_all}
use Rattle.pdl_semantics.specs.Stages.{mem_at}
use Rattle.pdl_semantics.specs.Locks.{Nothing, read_ready, write_ready, has_room}
use Rattle.pdl_semantics.specs.Machine.{Pending, Blocked, Reserved, Deeds, lock_of, reserves_of, youngest}
use Rattle.pdl_semantics.specs.Moves.{block_ready, blocks_ready, have_room}
use Rattle.pdl_machine_pending.specs.Memory.{Memory}
use Rattle.pdl_machine_run.specs.declared.beside.Beside as r_beside
use Rattle.pdl_machine_run.specs.Outside.{outside}
use Rattle.pdl_machine_run.specs.Acts.{block_in, is_roomy}
use Rattle.pdl_machine_run.specs.Typed.{AreMemories}
use Rattle.pdl_machine_run.proofs.CarriedDeeds.{lock_listed}

module _ (p : Pipe) (b : r_beside.Beside) (memories : AreMemories p b.memories.items) where
  one_roomy : (n m : ℕ) → is_roomy b.memories.items n m ≡ has_room (mem_at p m).lock n (length (lock_of (outside b) m))
  one_roomy n m = ap₂ (λ (l : Lock) (es : List Pending). has_room l n (length es)) (sym (memories.kinds m)) (sym (lock_listed b.memories.items m))

  each_roomy : (all rs : List Reserved)
      → list_all (λ (r : Reserved). is_roomy b.memories.items (reserves_of r.mem all) r.mem) rs
      ≡ list_all (λ (r : Reserved). has_room (mem_at p r.mem).lock (reserves_of r.mem all) (length (lock_of (outside b) r.mem))) rs
  each_roomy all [] = refl
  each_roomy all (r ∷ rs) = ap₂ (λ (c d : Bool). c && d) (one_roomy (reserves_of r.mem all) r.mem) (each_roomy all rs)

  -- whether the memories have room for these reservations
  roomy_is : (xs : List Memory) (rs : List Reserved) → xs ≡ b.memories.items
      → list_all (λ (r : Reserved). is_roomy xs (reserves_of r.mem rs) r.mem) rs
      ≡ list_all (λ (r : Reserved). has_room (mem_at p r.mem).lock (reserves_of r.mem rs) (length (lock_of (outside b) r.mem))) rs
  roomy_is xs rs e = ap (λ (ys : List Memory). list_all (λ (r : Reserved). is_roomy ys (reserves_of r.mem rs) r.mem) rs) e ∙ each_roomy rs rs

  one_ready : (thread : ℕ) (x : Blocked) → block_in b.memories.items thread x ≡ block_ready p (outside b) thread x
  one_ready thread x =
      ap₂
      (λ (l : Lock) (es : List Pending).
      if x.writes then write_ready l (youngest es thread x.address Nothing) else read_ready l (youngest es thread x.address Nothing))
      (sym (memories.kinds x.mem)) (sym (lock_listed b.memories.items x.mem))

  each_ready : (thread : ℕ) (xs : List Blocked)
      → list_all (λ (x : Blocked). block_in b.memories.items thread x) xs ≡ list_all (λ (x : Blocked). block_ready p (outside b) thread x) xs
  each_ready thread [] = refl
  each_ready thread (x ∷ xs) = ap₂ (λ (c d : Bool). c && d) (one_ready thread x) (each_ready thread xs)

  -- where the memories are ready for the blocks of a thread, the locks let it move where they have room for its reservations
  pub locks_are : (ms : List Memory) (thread : ℕ) (d : Deeds) (ready room : Bool) → ms ≡ b.memories.items
      → ready ≡ list_all (λ (x : Blocked). block_in ms thread x) d.blocks → ready ≡ true
      → room ≡ list_all (λ (r : Reserved). is_roomy ms (reserves_of r.mem d.reserves) r.mem) d.reserves
      → room ≡ (blocks_ready p (outside b) thread d && have_room p (outside b) d)
  locks_are ms thread d ready room e blocks all_ready reserves =
      let all : list_all (λ (x : Blocked). block_in ms thread x) d.blocks ≡ blocks_ready p (outside b) thread d =
      ap (λ (ys : List Memory). list_all (λ (x : Blocked). block_in ys thread x) d.blocks) e ∙ each_ready thread d.blocks in
      let those : true ≡ blocks_ready p (outside b) thread d = sym all_ready ∙ blocks ∙ all in
      reserves ∙ roomy_is ms d.reserves e ∙ ap (λ (c : Bool). c && have_room p (outside b) d) those
