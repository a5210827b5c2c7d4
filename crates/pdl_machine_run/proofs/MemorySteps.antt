-- What a cycle does to the memories, and what is shown of it, one memory after the other.
use Rattle.std.proofs.Common.{◌≡◌, sym, ap, ap₂, ◌∙◌, subst, ℕ, suc, ◌+◌, ◌<◌, Bool, false, List, [], ◌∷◌, ◌++◌, take, drop, length, Option, get_or, set, append_assoc, arith}
use Rattle.std.proofs.lemmas.List.{drop_more, take_more_set}
use Rattle.pdl_word.proofs.Lists.{head_same}
use Rattle.pdl_semantics.specs.Flat.{Lock}
use Rattle.pdl_semantics.specs.Machine.{Pending}
use Rattle.pdl_semantics.specs.Moves.{Act}
use Rattle.pdl_semantics.specs.Cycle.{port_writes}
use Rattle.pdl_machine_facts.specs.Ports.{commit_values}
use Rattle.pdl_machine_pending.specs.Memory.{Memory}
use Rattle.pdl_machine_run.specs.Acts.{out_of, memory_after, memories_after, commits_shown}
use Rattle.pdl_machine_run.specs.Ready.{CanStep, AllCanStep}

module _ (now all : List Memory) (m : ℕ) (x : Memory) (less : m < length now) (count : length now ≡ length all)
    (is : x ≡ get_or now m x) (left : drop m now ≡ drop m all) where
  -- those from this memory on are this one and those after it
  pub memory_first : drop m all ≡ x ∷ drop (m + 1) all
  memory_first =
      let there : m < length all = subst (λ n. m < n) count less in
      let same : x ≡ get_or all m x = is ∙ head_same (sym (drop_more now m x less) ∙ left ∙ drop_more all m x there) in
      drop_more all m x there ∙ ap (λ (y : Memory). y ∷ drop (m + 1) all) (sym same)

  -- this memory can take what the acts do to it, and those after it can
  pub steps_more : (ms : List Act) → AllCanStep m ms (drop m all) → CanStep m ms x × AllCanStep (m + 1) ms (drop (m + 1) all)
  steps_more ms h =
      let both : CanStep m ms x × AllCanStep (suc m) ms (drop (m + 1) all) = subst (AllCanStep m ms) memory_first h in
      let next : suc m ≡ m + 1 = omega arith in
      (both.0, subst (λ k. AllCanStep k ms (drop (m + 1) all)) next both.1)

  -- the memories so far and what the others become, with one more that has stepped
  pub stepped_more : (ms : List Act) (sq : Option ℕ) (y : Memory) (whole : List Memory) → y ≡ memory_after m ms sq x
      → take m now ++ memories_after m ms sq (drop m all) ≡ whole
      → take (m + 1) (set now m y) ++ memories_after (m + 1) ms sq (drop (m + 1) all) ≡ whole
  stepped_more ms sq y whole e h =
      let next : m + 1 ≡ suc m = omega arith in
      ap₂ (λ (a : List Memory) k. a ++ memories_after k ms sq (drop (m + 1) all)) (take_more_set now m y less) next
      ∙ append_assoc (take m now) (y ∷ []) (memories_after (suc m) ms sq (drop (m + 1) all))
      ∙ ap (λ (z : Memory). take m now ++ z ∷ memories_after (suc m) ms sq (drop (m + 1) all)) e
      ∙ ap (λ (ys : List Memory). take m now ++ memories_after m ms sq ys) (sym memory_first)
      ∙ h

  -- what is shown so far and what the others show, with the commits of one more
  pub shown_more : (ts : List Bool) (ms : List Act) (t : Bool) (l : Lock) (es : List Pending) (old new whole : List ℕ)
      → m < length ts → t ≡ get_or ts m false → l ≡ x.lock → es ≡ out_of m ms x.pending
      → new ≡ old ++ commit_values l t (port_writes es)
      → old ++ commits_shown (drop m ts) m ms (drop m all) ≡ whole
      → new ++ commits_shown (drop (m + 1) ts) (m + 1) ms (drop (m + 1) all) ≡ whole
  shown_more ts ms t l es old new whole told told_is lock out e h =
      let next : m + 1 ≡ suc m = omega arith in
      let rest : List ℕ = commits_shown (drop (m + 1) ts) (suc m) ms (drop (m + 1) all) in
      let first : drop m ts ≡ t ∷ drop (m + 1) ts = drop_more ts m false told ∙ ap (λ (b : Bool). b ∷ drop (m + 1) ts) (sym told_is) in
      ap₂ (λ (a : List ℕ) k. a ++ commits_shown (drop (m + 1) ts) k ms (drop (m + 1) all))
      (e ∙ ap₂ (λ (k : Lock) (fs : List Pending). old ++ commit_values k t (port_writes fs)) lock out) next
      ∙ append_assoc old (commit_values x.lock t (port_writes (out_of m ms x.pending))) rest
      ∙ ap₂ (λ (us : List Bool) (ys : List Memory). old ++ commits_shown us m ms ys) (sym first) (sym memory_first)
      ∙ h
