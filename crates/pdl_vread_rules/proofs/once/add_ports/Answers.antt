use Rattle.std.proofs.Common.{◌≡◌, ◌∙◌, true, false, length, rules, ap, subst}
use Rattle.std.specs.Iterator.Adapters.{zip_first, zip_second}
use Rattle.std.specs.Slice.Iter.{iter_rest}
use Rattle.std.proofs.lemmas.List.{length_push}
use Rattle.std.proofs.lemmas.Slice.Zip.{zip_turn}
use Rattle.pdl_vread_text.specs.declared.file.PortDecl.{PortDecl}
use Rattle.pdl_vread_nets.specs.Places.{AreFirsts}
use Rattle.pdl_vread_rules.specs.Once.{port_once, output_drives}
use Rattle.pdl_vread_rules.proofs.QuestionSteps.{turn_more, turn_stop, names_more, port_right}
use Rattle.pdl_vread_rules.proofs.once.add_ports.Goals as goal

pub returns-then-not-port_is_right : goal.returns-then-not-port_is_right
returns-then-not-port_is_right c =
    let decls = c.args.decls.now in
    let drives = c.args.drives.now in
    let counts = c.in_ok-counts.counts.items in
    let n = length c.loop-decl.yielded in
    let d = c.in-Some.decl.now in
    let first : iter_rest (zip_first c.into_iter-decl-iterator.result) ≡ decls = first_of (cc, search rules) in
    let second : iter_rest (zip_second c.into_iter-decl-iterator.result) ≡ counts = first_of (cc, search rules) in
    let t =
    zip_turn decls counts c.loop-decl.yielded c.into_iter-decl-iterator.result c.loop-decl.decl-iterator c.next.new.self c.next.result first second c.loop-decl.yielded_by
    (c.in-Some.decl, c.in-Some.count) c.in-Some.is c.next.ensures.steps in
    let counted : c.in-Some.count.now ≡ output_drives drives n = t.3 0 ∙ c.in_ok-counts.ensures.counts n t.0 in
    let right =
    port_right drives decls n c.in-Some.count.now d c.port_is_right.result t.0 (t.2 d) counted (c.port_is_right.ensures _ c.loop-decl.invariant.names) in
    let wrong : c.port_is_right.result ≡ false = cc in
    turn_stop (port_once drives) decls n d.line d _ t.0 (right ∙ wrong) (ap (λ (z : PortDecl). z.line) (t.2 d)) c.loop-decl.invariant.rest

pub loop-decl-preserved : goal.loop-decl-preserved
loop-decl-preserved c =
    let decls = c.args.decls.now in
    let drives = c.args.drives.now in
    let counts = c.in_ok-counts.counts.items in
    let n = length c.loop-decl.yielded in
    let d = c.in-Some.decl.now in
    let first : iter_rest (zip_first c.into_iter-decl-iterator.result) ≡ decls = first_of (cc, search rules) in
    let second : iter_rest (zip_second c.into_iter-decl-iterator.result) ≡ counts = first_of (cc, search rules) in
    let t =
    zip_turn decls counts c.loop-decl.yielded c.into_iter-decl-iterator.result c.loop-decl.decl-iterator c.next.new.self c.next.result first second c.loop-decl.yielded_by
    (c.in-Some.decl, c.in-Some.count) c.in-Some.is c.next.ensures.steps in
    let counted : c.in-Some.count.now ≡ output_drives drives n = t.3 0 ∙ c.in_ok-counts.ensures.counts n t.0 in
    let right =
    port_right drives decls n c.in-Some.count.now d c.port_is_right.result t.0 (t.2 d) counted (c.port_is_right.ensures _ c.loop-decl.invariant.names) in
    let ok : c.port_is_right.result ≡ true = cc in
    let more = length_push c.loop-decl.yielded (c.in-Some.decl, c.in-Some.count) in
    record {
      names =
          subst (λ z. AreFirsts z c.add.new.self) (names_more (λ q. q.name) decls n _ d t.0 more (t.2 d))
          (c.in_ok-add.ensures.names _ c.loop-decl.invariant.names);
      rest = turn_more (port_once drives) decls n _ d _ t.0 more (right ∙ ok) c.loop-decl.invariant.rest;
    }
