-- Places that declare.
use Rattle.pdl_rules.specs.Places.{Place, Parameter, Memory}
use Rattle.pdl_syntax_tree.specs.declared.tree.Param.{Param}
use Rattle.pdl_syntax_tree.specs.declared.tree.Mem.{Mem}
use Rattle.pdl_syntax_tree.specs.View.{param_view, mem_view}

-- a parameter's place
unfoldable pub parameter : Param → Place
parameter a = Parameter (param_view a)

-- a memory's place
unfoldable pub memory : Mem → Place
memory m = Memory (mem_view m)
