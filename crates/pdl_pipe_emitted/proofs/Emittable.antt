-- The flat form of a source that breaks no rule is one of which nets can be emitted.
use Rattle.std.proofs.Common.{◌≡◌, sym, ◌∙◌, subst, ℕ, ◌≤◌, Bool, true, List, [], ◌∷◌, length}
use Rattle.pdl_semantics.specs.Tree.{Mem, Pipe}
use Rattle.pdl_semantics.specs.Flat.{Op, Stmt}
use Rattle.pdl_semantics.specs.Flatten.{flat, first_stages, mems_of}
use Rattle.pdl_semantics.specs.Stages.{is_reserve, is_release}
use Rattle.pdl_rules.specs.Refusal.{KeepsRules}
use Rattle.pdl_source_stages.proofs.Facts.{stage_facts}
use Rattle.pdl_source_paths.specs.Source.{is_source, is_named}
use Rattle.pdl_source_paths.proofs.Memories.{mems_length, stages_length}
use Rattle.pdl_form.specs.Form.{Form, form_of}
use Rattle.pdl_form_types.specs.Stmts.{AreTypedStmts, IsTypedForm}
use Rattle.pdl_form_types.proofs.FormTyping.{typed_whole}
use Rattle.pdl_law_parts.specs.Rows.{HasRow}
use Rattle.pdl_law_parts.proofs.WellFormedStages.{few_stages}
use Rattle.pdl_law_follows.specs.StandingStates.{IsLawful}
use Rattle.pdl_law_follows.proofs.FromRules.{lawful_source}
use Rattle.pdl_pipe_walk.specs.Sized.{AreWalked}
use Rattle.pdl_pipe_beside.proofs.ReadStages.{reads_lead_on}
use Rattle.pdl_pipe_beside.proofs.OrderParts.{forks_fit}
use Rattle.pdl_pipe_emitted.proofs.Begins.{leads_up, begins_first}
use Rattle.pdl_pipe_emitted.specs.Emitted.{CanEmit}
use Rattle.pdl_pipe_emitted.proofs.MergedForks.{merged_low}
use Rattle.pdl_word.specs.Each.{Each}

-- one entry for each memory
one_each : (test : ℕ → Op → Bool) (xs : List Stmt) (ms : List Mem) → length (first_stages test xs 0 ms) ≡ length (mems_of ms)
one_each test xs ms = stages_length test xs 0 ms ∙ sym (mems_length ms)

-- statements that are typed, and for each of which a row stands
both_walked : (f : Form) (xs : List Stmt) → AreTypedStmts f xs → Each (λ (x : Stmt). HasRow f.pipe x.op) xs → AreWalked f xs
both_walked f [] t h = tt
both_walked f (x ∷ xs) t h = ((t.0, h.0), both_walked f xs t.1 h.1)

-- nets can be emitted of a source that breaks no rule and has no variable with the empty name
pub can_emit : (p : Pipe) → KeepsRules p → is_source p ≡ true → is_named p ≡ true → CanEmit (form_of p)
can_emit p rules source named = record {
  typed = typed;
  walked = both_walked (form_of p) (flat p).stmts typed.stmts lawful.rows;
  reserves = one_each is_reserve (flat p).stmts p.mems;
  releases = one_each is_release (flat p).stmts p.mems;
  leads = lawful.leads;
  inside = leads_up (flat p) lawful.leads;
  reads = lawful.reads;
  onward = reads_lead_on (flat p) lawful.leads lawful.reads lawful.inside lawful.sound.fetch_inside;
  fit = forks_fit (flat p) (few_stages p rules);
  begins = begins_first (flat p) lawful.leads lawful.some (subst (λ n. length (flat p).start ≤ n) (sym typed.vars) typed.params);
  wide = typed.params;
  verify = (stage_facts p rules).verify_inside;
  forks = merged_low p rules;
}
  where
    typed : IsTypedForm (form_of p)
    typed = typed_whole p rules named

    lawful : IsLawful (flat p)
    lawful = lawful_source p rules source named
