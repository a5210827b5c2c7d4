-- All updates of guesses stand in one stage, that of the first.
use Rattle.std.proofs.Common.{◌≡◌, refl, sym, ap, ◌∙◌, ℕ, Bool, true, false, ◌&&◌, List, [], ◌∷◌, length, Some, unwrap_or, if◌then◌else◌}
use Rattle.std.proofs.lemmas.Bool.{false≢true}
use Rattle.pdl_kit.specs.declared.rule.Rule.TheVariants.{S7}
use Rattle.pdl_semantics.specs.Tree.{R, W, Variable, Stmt, CombRead, Bind, Write, Reserve, If, Pipe}
use Rattle.pdl_semantics.specs.Flat
use Rattle.pdl_semantics.specs.Flatten.{var_of, flat_expr, is_advisory_mem, is_advised, mem_of, flat}
use Rattle.pdl_semantics.specs.Flatten
use Rattle.pdl_semantics.specs.Updates.{is_update, first_update}
use Rattle.pdl_rules.specs.Places.{Statement}
use Rattle.pdl_rules.specs.Stages.{is_elsewhere, stage_in}
use Rattle.pdl_rules.specs.Speculation
use Rattle.pdl_rules.specs.Refusal.{KeepsRules}
use Rattle.pdl_theory_turns.specs.Scans.{all_at}
use Rattle.pdl_source_stages.proofs.Sites.{Site, sites_of, place_of}
use Rattle.pdl_source_stages.proofs.SiteStages.{all_both}
use Rattle.pdl_source_stages.proofs.SiteFacts.{Fine, all_fine, AtSite, each_stmt, all_at_each, op_of, from_op, read_none, bind_none, write_none}
use Rattle.pdl_source_stages.proofs.Firsts.{Alike, one_stage}
use Rattle.pdl_word.specs.Each.{Each}
use Rattle.pdl_word.proofs.Each.{each_weaker}

update_first : (ys : List Flat.Stmt) → first_update ys ≡ Flatten.first_stage is_update ys
update_first [] = refl
update_first (y ∷ ys) = ap (λ o. if is_update y.op then Some y.stage else o) (update_first ys)

module _ (p : Pipe) (rules : KeepsRules p) where
  update_alike : (t : Site) → Fine p t → Alike p.mems is_update Speculation.is_update t
  update_alike t h = at t.stmt
    where
      at : (s : Stmt) → from_op is_update (op_of p.mems t.walk.vars s) ≡ Speculation.is_update (Statement s t.branches)
      at (Reserve sp l R) = refl
      at (Reserve sp l W) = refl
      at (If sp (Variable x) when otherwise) = refl
      at (If sp c when otherwise) = refl
      at (CombRead sp x l) =
          read_none is_update (is_advisory_mem p.mems l.mem.name) (length t.walk.vars) (mem_of p.mems l.mem.name)
          (var_of t.walk.vars l.address.name) refl refl
      at (Bind sp x v) = bind_none is_update (is_advised t.walk.vars v) (length t.walk.vars) (flat_expr t.walk.vars v) refl refl
      at (Write sp l v) =
          write_none is_update (is_advisory_mem p.mems l.mem.name) (mem_of p.mems l.mem.name) (var_of t.walk.vars l.address.name)
          (flat_expr t.walk.vars v) refl refl
      at s = refl

  update_elsewhere : (t : Site) → Fine p t → Speculation.is_update (place_of t) ≡ true → is_elsewhere Speculation.is_update t.front t.walk.stage ≡ false
  update_elsewhere t h e =
      ap (is_elsewhere Speculation.is_update t.front) (sym h.staged)
      ∙ other (Speculation.is_update (place_of t))
      (is_elsewhere Speculation.is_update t.front (stage_in t.front t.branches)) e (rules S7 t.front (place_of t) h.later h.whole)
    where
      other : (a b : Bool) → a ≡ true → (a && b) ≡ false → b ≡ false
      other true b f g = g
      other false b f g = absurd (false≢true f)

  each_update : Each (λ y. is_update y.op ≡ true → Some y.stage ≡ Flatten.first_stage is_update (flat p).stmts) (flat p).stmts
  each_update =
      each_stmt p (λ y. is_update y.op ≡ true → Some y.stage ≡ Flatten.first_stage is_update (flat p).stmts)
      (all_both (Fine p)
      (λ t. Speculation.is_update (place_of t) ≡ true → Some t.walk.stage ≡ Flatten.first_stage is_update (flat p).stmts)
      (AtSite (λ y. is_update y.op ≡ true → Some y.stage ≡ Flatten.first_stage is_update (flat p).stmts) p.mems)
      (λ t h k op e f. k (sym (update_alike t h) ∙ ap (from_op is_update) e ∙ f))
      (sites_of p) (all_fine p rules)
      (one_stage p rules is_update Speculation.is_update (λ a. refl) (λ m. refl) update_alike update_elsewhere))

  -- S7: all updates of a source that breaks no rule stand in the stage of the first
  pub updates_in : (u : ℕ) → first_update (flat p).stmts ≡ Some u → all_at is_update u (flat p).stmts ≡ true
  updates_in u e =
      all_at_each is_update u (flat p).stmts
      (each_weaker (λ y. is_update y.op ≡ true → Some y.stage ≡ Flatten.first_stage is_update (flat p).stmts) (λ y. is_update y.op ≡ true → y.stage ≡ u)
      (λ y h f. ap (λ o. unwrap_or o 0) (h f ∙ sym (update_first (flat p).stmts) ∙ e)) (flat p).stmts each_update)
