-- The machine runs each accepted pipe, with each image of it.
use Rattle.std.proofs.Common.{◌≡◌, refl, sym, ◌∙◌, subst, ℕ, zero, suc, ◌^◌, ◌<◌, ◌≤◌, ◌==◌, false, Bool, List, [], ◌∷◌, length, slice_index, slice_index_or, arith, ◌++◌}
use Rattle.std.specs.Prelude.{IsTrue}
use Rattle.std.proofs.lemmas.List.Sums.{count_by-le-length}
use Rattle.pdl_semantics.specs.Tree.{Mem, Pipe}
use Rattle.pdl_semantics.specs.Flat as Flats
use Rattle.pdl_semantics.specs.Flat.{Arrays}
use Rattle.pdl_semantics.specs.Flatten.{mems_of, flat}
use Rattle.pdl_semantics.specs.Stages.{plain_mem, list_any}
use Rattle.pdl_semantics.specs.Machine.{fork_of}
use Rattle.pdl_semantics.specs.Cycle.{first, state_after}
use Rattle.pdl_theory_turns.specs.Derived
use Rattle.pdl_theory_turns.specs.Simulation.{hints_of}
use Rattle.pdl_theory_turns.specs.Facts.{Sound}
use Rattle.pdl_theory_states.specs.Strict.{Strict}
use Rattle.pdl_theory_states.proofs.ReachedStates.{reached}
use Rattle.pdl_theory_simulation.proofs.AcceptedFacts.{sound_flows}
use Rattle.pdl_machine_inflight.proofs.ForkLists.{list_few}
use Rattle.pdl_machine_lockuse.proofs.InUse.{leads_sound}
use Rattle.pdl_machine_lockuse.proofs.InRuns.{in_use_here, stages_here}
use Rattle.pdl_machine_lockuse.proofs.FromRules.{careful_source}
use Rattle.pdl_rules.specs.Refusal.{KeepsRules}
use Rattle.pdl_source_paths.specs.Source.{is_source, is_named}
use Rattle.pdl_source_paths.proofs.PipeFacts.{of_source}
use Rattle.pdl_source_strict.proofs.Paths.{paths_strict}
use Rattle.pdl_form.specs.Form.{form_of}
use Rattle.pdl_form_types.specs.Stmts.{IsTypedForm}
use Rattle.pdl_kit.specs.declared.mem_info.MemInfo.{MemInfo}
use Rattle.pdl_image.specs.Images.{IsImage}
use Rattle.pdl_machine_run.specs.Running.{IsRunnable, AreImages}
use Rattle.pdl_rules.specs.Memories.{infos_of}
use Rattle.pdl_rules.proofs.ToldMemories.{infos_count}
use Rattle.pdl_theory_turns.specs.Derived.{Hint}

-- THE PIPE

-- a fork's list is no longer than there are stages
few_inside : (p : Flats.Pipe) → Sound p → Strict p → (image : Arrays) (before : List (List Bool)) (f : ℕ)
    → length (fork_of (state_after p (first p image) before) f) ≤ length p.stages
few_inside p sound strict image before f =
    let r = reached p sound strict image before [] in
    let hints : ℕ → Hint = hints_of p (first p image) (before ++ []) in
    let few =
    list_few p (sound_flows p sound).graph (state_after p (first p image) before) (Derived.state_after p (Derived.first p image hints) before) r.live r.sim f in
    let most = count_by-le-length (λ (x : Flats.Stage). list_any (λ b. b.fork == f) x.branches) p.stages in
    omega (arith, few, most)

-- the form of a pipe that keeps the rules, and is as sources are, can run where it is typed
pub runnable : (p : Pipe) → KeepsRules p → IsTrue (is_source p) → IsTrue (is_named p) → IsTypedForm (form_of p) → IsRunnable (form_of p)
runnable p kept source letters typed =
    let sound : Sound (flat p) = of_source p kept source letters in
    let strict : Strict (flat p) = paths_strict p kept source in
    record {
      typed = typed;
      leads = leads_sound (flat p) sound;
      some = (sound_flows (flat p) sound).graph.some_stage;
      by = stages_here (flat p) sound strict;
      used = λ image before bits. in_use_here (flat p) sound strict image before bits (careful_source p kept source);
      forked = few_inside (flat p) sound strict;
    }

-- IMAGES

no_info : MemInfo
no_info = record { name = []; width = 0; depth = 0; delayed = false }

info_depth : (ms : List Mem) (m : ℕ)
    → m < length (infos_of ms)
    → (slice_index_or (infos_of ms) m no_info).depth ≡ (slice_index_or (mems_of ms) m plain_mem).depth
info_depth [] m h = absurd (omega arith)
info_depth (x ∷ ms) zero h = refl
info_depth (x ∷ ms) (suc m) h = info_depth ms m (omega arith)

info_width : (ms : List Mem) (m : ℕ)
    → m < length (infos_of ms)
    → (slice_index_or (infos_of ms) m no_info).width ≡ (slice_index_or (mems_of ms) m plain_mem).width
info_width [] m h = absurd (omega arith)
info_width (x ∷ ms) zero h = refl
info_width (x ∷ ms) (suc m) h = info_width ms m (omega arith)

-- an image of the memories that a pipe tells is one of its flat form
pub images : (p : Pipe) (image : List (List ℕ)) → IsImage (infos_of p.mems) image → AreImages (flat p) image
images p image is =
    let count = infos_count p.mems in
    record {
      count = is.count ∙ count;
      depth = λ m h. is.depth m no_info (subst (λ n. m < n) (sym count) h) ∙ info_depth p.mems m (subst (λ n. m < n) (sym count) h);
      words = λ m a h.
          subst (λ w. slice_index (slice_index_or image m []) a < 2 ^ w) (info_width p.mems m (subst (λ n. m < n) (sym count) h))
          (is.width m no_info (subst (λ n. m < n) (sym count) h) a);
    }
