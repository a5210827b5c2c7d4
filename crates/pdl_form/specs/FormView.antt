-- A flat form as the program keeps it.
use Rattle.std.specs.Prelude.{length}
use Rattle.pdl_form.specs.declared.flat.FlatPipe as r_pipe
use Rattle.pdl_form.specs.View.{mems_view, mem_names, stmts_view, stages_view}
use Rattle.pdl_form.specs.Form.{Form}

-- what callers see of it
abbrev pub form : r_pipe.FlatPipe → Form
form f =
    record {
      pipe = record {
        vars = length f.widths.items;
        mems = mems_view f.mems.items;
        stmts = stmts_view f.stmts.items;
        stages = stages_view f.stages.items;
        start = f.start.items;
        reserves_at = f.reserved.items;
        releases_at = f.released.items;
      };
      widths = f.widths.items;
      names = mem_names f.mems.items;
    }
