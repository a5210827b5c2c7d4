use Rattle.std.proofs.Common.{◌∙◌, ◌≡◌, ap, subst, arith}
use Rattle.pdl_net.specs.declared.Net.{Net}
use Rattle.pdl_net.specs.Meaning.{IsThere, signal}
use Rattle.pdl_net.specs.Well.{IsWell, IsWidth}
use Rattle.std.proofs.lemmas.List.{get_or_default}
use Rattle.pdl_net.specs.declared.Reg.{Reg}
use Rattle.pdl_net.specs.Circuit.{Circuit, no_reg}
use Rattle.pdl_build.specs.declared.Extent.{Extent}
use Rattle.pdl_build.specs.Parts.{circuit_of_parts, no_cell}
use Rattle.pdl_build.proofs.Widths.{input_in, reg_in, cell_in, input_is, reg_is, cell_is, wide}
use Rattle.pdl_build.proofs.Builder.width.Goals as goal

pub index-requires : goal.index-requires
index-requires c =
    let b = c.self.inside in
    rw b.input_widths.ok.0
    (input_in
    (circuit_of_parts b) c.args.self.now b.input_widths.items b.extents.items c.args.net c.in-Input.i c.self.invariant.extents c.self.view_is c.in-Input.is c.requires)

pub index-requires-in-Reg : goal.index-requires-in-Reg
index-requires-in-Reg c =
    let b = c.self.inside in
    rw b.regs.ok.0 (reg_in (circuit_of_parts b) c.args.self.now c.args.net c.in-Reg.r c.self.view_is c.in-Reg.is c.requires)

pub index-requires-in-Cell : goal.index-requires-in-Cell
index-requires-in-Cell c =
    let b = c.self.inside in
    rw b.extents.ok.0
    (cell_in
    (circuit_of_parts b) c.args.self.now b.input_widths.items b.extents.items c.args.net c.in-Cell.k c.self.invariant.extents c.self.view_is c.in-Cell.is c.requires)

pub returns-in-Input-clause-value : goal.returns-in-Input-clause-value
returns-in-Input-clause-value c =
    let b = c.self.inside in
    let i = c.in-Input.i in
    let h = c.self.invariant.extents in
    let lt = input_in (circuit_of_parts b) c.args.self.now b.input_widths.items b.extents.items c.args.net i h c.self.view_is c.in-Input.is c.requires in
    c.index.ensures ∙ get_or_default b.input_widths.items i c.index.result.now 0 lt
    ∙ input_is (circuit_of_parts b) c.args.self.now b.input_widths.items b.extents.items c.args.net i h c.self.view_is c.in-Input.is

pub returns-in-Reg-clause-value : goal.returns-in-Reg-clause-value
returns-in-Reg-clause-value c =
    let b = c.self.inside in
    let r = c.in-Reg.r in
    let lt = reg_in (circuit_of_parts b) c.args.self.now c.args.net r c.self.view_is c.in-Reg.is c.requires in
    ap (λ (g : Reg). g.width) (c.index-in-Reg.ensures ∙ get_or_default b.regs.items r c.index-in-Reg.result.now no_reg lt)
    ∙ reg_is (circuit_of_parts b) c.args.self.now c.args.net r c.self.view_is c.in-Reg.is

pub returns-in-Cell-clause-value : goal.returns-in-Cell-clause-value
returns-in-Cell-clause-value c =
    let b = c.self.inside in
    let k = c.in-Cell.k in
    let h = c.self.invariant.extents in
    let lt = cell_in (circuit_of_parts b) c.args.self.now b.input_widths.items b.extents.items c.args.net k h c.self.view_is c.in-Cell.is c.requires in
    ap (λ (n : Extent). n.width) (c.index-in-Cell.ensures ∙ get_or_default b.extents.items k c.index-in-Cell.result.now no_cell lt)
    ∙ cell_is (circuit_of_parts b) c.args.self.now b.input_widths.items b.extents.items c.args.net k h c.self.view_is c.in-Cell.is c.requires

-- each net has 1 to widest bits
has_width : (c v : Circuit) (x : Net) → IsWell c → c ≡ v → IsThere v x → IsWidth (signal v x).width
has_width c v x w e t = wide v (subst IsWell e w) x t

pub returns-in-Input-clause-low : goal.returns-in-Input-clause-low
returns-in-Input-clause-low c =
    omega (
      arith,
      (has_width (circuit_of_parts c.self.inside) c.args.self.now c.args.net c.self.invariant.well c.self.view_is c.requires).low,
      returns-in-Input-clause-value c,
    )

pub returns-in-Input-clause-high : goal.returns-in-Input-clause-high
returns-in-Input-clause-high c =
    omega (
      arith,
      (has_width (circuit_of_parts c.self.inside) c.args.self.now c.args.net c.self.invariant.well c.self.view_is c.requires).high,
      returns-in-Input-clause-value c,
    )

pub returns-in-Reg-clause-low : goal.returns-in-Reg-clause-low
returns-in-Reg-clause-low c =
    omega (
      arith,
      (has_width (circuit_of_parts c.self.inside) c.args.self.now c.args.net c.self.invariant.well c.self.view_is c.requires).low,
      returns-in-Reg-clause-value c,
    )

pub returns-in-Reg-clause-high : goal.returns-in-Reg-clause-high
returns-in-Reg-clause-high c =
    omega (
      arith,
      (has_width (circuit_of_parts c.self.inside) c.args.self.now c.args.net c.self.invariant.well c.self.view_is c.requires).high,
      returns-in-Reg-clause-value c,
    )

pub returns-in-Cell-clause-low : goal.returns-in-Cell-clause-low
returns-in-Cell-clause-low c =
    omega (
      arith,
      (has_width (circuit_of_parts c.self.inside) c.args.self.now c.args.net c.self.invariant.well c.self.view_is c.requires).low,
      returns-in-Cell-clause-value c,
    )

pub returns-in-Cell-clause-high : goal.returns-in-Cell-clause-high
returns-in-Cell-clause-high c =
    omega (
      arith,
      (has_width (circuit_of_parts c.self.inside) c.args.self.now c.args.net c.self.invariant.well c.self.view_is c.requires).high,
      returns-in-Cell-clause-value c,
    )
