-- Memories as their locks and arrays take them, and locks that suit them.
use Rattle.std.specs.Prelude.{◌≡◌, ℕ, ◌<◌, false, List, [], ◌∷◌, ◌++◌, if◌then◌else◌, length, slice_index_or, Option, Some, is_some, ⊤}
use Rattle.pdl_kit.specs.declared.mem_info.MemInfo.{MemInfo}
use Rattle.pdl_semantics.specs.Flat.{Mem, is_delayed}
use Rattle.pdl_semantics.specs.Stages.{mem_at}
use Rattle.pdl_net.specs.Circuit.{Shape}
use Rattle.pdl_lockapi.specs.Forget.{as_lock}
use Rattle.pdl_lockapi.specs.Sizes.{words_in}
use Rattle.pdl_form.specs.Form.{Form}
use Rattle.pdl_law_parts.specs.Walk.{is_locked}
use Rattle.pdl_pipe_walk.specs.Locked.{Members, some_at}

-- a memory as it is told to its lock, by its name
abbrev pub info_of : List ℕ → Mem → MemInfo
info_of name m = record { name = name; width = m.width; depth = m.depth; delayed = is_delayed m.kind }

-- memory m of a form as it is told to its lock
abbrev pub info_at : Form → ℕ → MemInfo
info_at f m = info_of (slice_index_or f.names m []) (mem_at f.pipe m)

-- the shape of the array of a memory of this name, with as many words as its lock needs
abbrev pub shape_in : List ℕ → Mem → Shape
shape_in name m = record { name = name; width = m.width; depth = words_in m.lock m.depth }

-- the array of a memory; a delayed one has none
abbrev pub arrays_in : List ℕ → Mem → List Shape
arrays_in name m = if is_delayed m.kind then [] else shape_in name m ∷ []

-- the arrays of memories with these names
abbrev pub shapes_in : List (List ℕ) → List Mem → List Shape
shapes_in (name ∷ names) (m ∷ ms) = arrays_in name m ++ shapes_in names ms
shapes_in _ _ = []

-- memories that answer at once
abbrev pub AreComb : List Mem → Type 0
AreComb [] = ⊤
AreComb (m ∷ ms) = (is_delayed m.kind ≡ false) × AreComb ms

-- a lock for each memory that should have one, of its kind and size, that serves it
pub record AreSuited {T : Type 0} (suits : T → MemInfo → Type 0) (l : Members T) (f : Form) (ls : List (Option T)) : Type 0 where
  pub count : length ls ≡ length f.pipe.mems
  pub locked : (m : ℕ) → m < length f.pipe.mems → is_some (some_at ls m) ≡ is_locked f.pipe m
  pub suited : (m : ℕ) (x : T) → m < length f.pipe.mems → some_at ls m ≡ Some x → suits x (info_at f m)
  pub kinds : (m : ℕ) (x : T) → m < length f.pipe.mems → some_at ls m ≡ Some x → (mem_at f.pipe m).lock ≡ as_lock (l.kind x) (l.size x)
