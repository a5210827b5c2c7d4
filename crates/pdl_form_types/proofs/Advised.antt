-- Expressions of the tree that use no advised variable have flat expressions that use none.
use Rattle.std.proofs.Common.{◌≡◌, refl, sym, ap, ap₂, ◌∙◌, ℕ, Bool, ◌||◌, List, [], ◌∷◌}
use Rattle.std.specs.List.{list_any}
use Rattle.pdl_semantics.specs.Tree.{Expr, Constant, Variable, Slice, Not, Binary, Cat, LessSigned, ZeroExtend, SignExtend, Choose, Param}
use Rattle.pdl_semantics.specs.Flatten.{Var, is_advised, flat_expr, flat_exprs}
use Rattle.pdl_rules.specs.Typed.{IsTyped, AreArguments}
use Rattle.pdl_rules.proofs.KnownVariables.{Stays}
use Rattle.pdl_form_types.specs.Apart.{uses_flagged, some_flagged}
use Rattle.pdl_form_types.proofs.VariableNames.{Flagged}

-- a typed expression whose names are found uses a flagged variable exactly if it uses an advised one
pub uses_advised : (us vs : List Var) (fs : List Bool) → Flagged us vs fs → (e : Expr) → IsTyped us e
    → uses_flagged fs (flat_expr vs e) ≡ is_advised us e
uses_advised us vs fs f (Constant l) t = refl
uses_advised us vs fs f (Variable x) t = f.flag x.name t
uses_advised us vs fs f (Slice x high low) t = f.flag x.name t.0
uses_advised us vs fs f (Not a) t = uses_advised us vs fs f a t
uses_advised us vs fs f (Binary op a b) t = ap₂ (λ g h. g || h) (uses_advised us vs fs f a t.0) (uses_advised us vs fs f b t.1)
uses_advised us vs fs f (Cat a b) t = ap₂ (λ g h. g || h) (uses_advised us vs fs f a t.0) (uses_advised us vs fs f b t.1)
uses_advised us vs fs f (LessSigned a b) t = ap₂ (λ g h. g || h) (uses_advised us vs fs f a t.0) (uses_advised us vs fs f b t.1)
uses_advised us vs fs f (ZeroExtend a n) t = uses_advised us vs fs f a t.0
uses_advised us vs fs f (SignExtend a n) t = uses_advised us vs fs f a t.0
uses_advised us vs fs f (Choose c a b) t =
    ap₂ (λ g h. g || h) (uses_advised us vs fs f c t.0)
    (ap₂ (λ g h. g || h) (uses_advised us vs fs f a t.1) (uses_advised us vs fs f b t.2))

-- a typed expression is advised by these variables exactly if it is by those
pub advised_same : (us vs : List Var) (fs : List Bool) → Flagged us vs fs → (e : Expr) → IsTyped us e → is_advised vs e ≡ is_advised us e
advised_same us vs fs f (Constant l) t = refl
advised_same us vs fs f (Variable x) t = f.same x.name t
advised_same us vs fs f (Slice x high low) t = f.same x.name t.0
advised_same us vs fs f (Not a) t = advised_same us vs fs f a t
advised_same us vs fs f (Binary op a b) t = ap₂ (λ g h. g || h) (advised_same us vs fs f a t.0) (advised_same us vs fs f b t.1)
advised_same us vs fs f (Cat a b) t = ap₂ (λ g h. g || h) (advised_same us vs fs f a t.0) (advised_same us vs fs f b t.1)
advised_same us vs fs f (LessSigned a b) t = ap₂ (λ g h. g || h) (advised_same us vs fs f a t.0) (advised_same us vs fs f b t.1)
advised_same us vs fs f (ZeroExtend a n) t = advised_same us vs fs f a t.0
advised_same us vs fs f (SignExtend a n) t = advised_same us vs fs f a t.0
advised_same us vs fs f (Choose c a b) t =
    ap₂ (λ g h. g || h) (advised_same us vs fs f c t.0)
    (ap₂ (λ g h. g || h) (advised_same us vs fs f a t.1) (advised_same us vs fs f b t.2))

-- a typed expression is advised by all variables exactly if it is by those so far
pub advised_stays : (us all : List Var) → Stays us all → (e : Expr) → IsTyped us e → is_advised all e ≡ is_advised us e
advised_stays us all s (Constant l) t = refl
advised_stays us all s (Variable x) t = (s x.name t).2
advised_stays us all s (Slice x high low) t = (s x.name t.0).2
advised_stays us all s (Not a) t = advised_stays us all s a t
advised_stays us all s (Binary op a b) t = ap₂ (λ g h. g || h) (advised_stays us all s a t.0) (advised_stays us all s b t.1)
advised_stays us all s (Cat a b) t = ap₂ (λ g h. g || h) (advised_stays us all s a t.0) (advised_stays us all s b t.1)
advised_stays us all s (LessSigned a b) t = ap₂ (λ g h. g || h) (advised_stays us all s a t.0) (advised_stays us all s b t.1)
advised_stays us all s (ZeroExtend a n) t = advised_stays us all s a t.0
advised_stays us all s (SignExtend a n) t = advised_stays us all s a t.0
advised_stays us all s (Choose c a b) t =
    ap₂ (λ g h. g || h) (advised_stays us all s c t.0)
    (ap₂ (λ g h. g || h) (advised_stays us all s a t.1) (advised_stays us all s b t.2))

-- arguments that use no advised variable have flat ones that use none
pub some_advised : (us vs all : List Var) (fs : List Bool) → Flagged us vs fs → Stays us all → (ps : List Param) (es : List Expr)
    → AreArguments us ps es → some_flagged fs (flat_exprs vs es) ≡ list_any (is_advised all) es
some_advised us vs all fs f s [] [] t = refl
some_advised us vs all fs f s [] (e ∷ es) t = absurd t
some_advised us vs all fs f s (a ∷ ps) [] t = absurd t
some_advised us vs all fs f s (a ∷ ps) (e ∷ es) t =
    ap₂ (λ g h. g || h)
    (uses_advised us vs fs f e t.0 ∙ sym (advised_stays us all s e t.0))
    (some_advised us vs all fs f s ps es t.2)
