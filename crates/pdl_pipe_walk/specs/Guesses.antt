-- What calls guess, and whether a verify finds the guess wrong.
use Rattle.std.specs.Prelude.{List, [], ◌∷◌}
use Rattle.pdl_net.specs.declared.BinOp.TheVariants.{Ne}
use Rattle.pdl_net.specs.Signal.{Signal, mux_signal, bin_signal}
use Rattle.pdl_law_parts.specs.Walk.{one, zero_bit}

-- where a condition is 1 each of the first signals, else each of the second ones
abbrev pub choices : Signal → List Signal → List Signal → List Signal
choices on (f ∷ fs) (g ∷ gs) = mux_signal on f g ∷ choices on fs gs
choices on _ _ = []

-- whether a bit is 1 or two signals differ
abbrev pub or_differ : Signal → Signal → Signal → Signal
or_differ d f g = mux_signal (bin_signal Ne f g) one d

-- whether a bit is 1 or any of the first signals differs from the second one at its place
abbrev pub differ_from : Signal → List Signal → List Signal → Signal
differ_from d (f ∷ fs) (g ∷ gs) = differ_from (or_differ d f g) fs gs
differ_from d _ _ = d

-- whether any of the first signals differs from the second one at its place
abbrev pub differ_signal : List Signal → List Signal → Signal
differ_signal fs gs = differ_from zero_bit fs gs
