-- Which breakpoints are set (our choice).
use Rattle.std.specs.Prelude.{ℕ, suc, ◌+◌, ◌==◌, nat_lt, Bool, false, ◌&&◌, cond, List, [], ◌∷◌, ◌++◌, take}
use Rattle.std.specs.Prelude.{drop, length, slice_set}
use Rattle.std.specs.Prelude.{Option, Some, None}
use Rattle.sfc_base.specs.declared.ids.ProgId.{ProgId}
use Rattle.sfc_plant.specs.Plants.{PlantData}
use Rattle.sfc_plant.specs.Finding.{chart_of}
use Rattle.sfc_core.specs.sfc_tables.Tables.{Tabled, tables_of}
use Rattle.sfc_events.specs.declared.command.Command.{Command}
use Rattle.sfc_events.specs.declared.command.Command.TheVariants.{Break, BreakIf, Unbreak}
use Rattle.sfc_events.specs.declared.command.Point.{Point}
use Rattle.sfc_events.specs.declared.command.Point.TheVariants.{Step, Transition, Action}
use Rattle.sfc_debug.specs.declared.breakpoint.Breakpoint.{Breakpoint}

-- ---- places

-- two points of a chart are the same
abbrev pub is_point : Point → Point → Bool
is_point (Step s) (Step other) = s.0 == other.0
is_point (Transition tr) (Transition other) = tr.0 == other.0
is_point (Action a) (Action other) = a.0 == other.0
is_point _ _ = false

-- the breakpoint stands at this point of this program instance
abbrev pub is_at : ProgId → Point → Breakpoint → Bool
is_at p point breakpoint = (breakpoint.program.0 == p.0) && is_point breakpoint.point point

-- the chart with these tables has the point
abbrev pub is_point_of : Tabled → Point → Bool
is_point_of tables (Step s) = nat_lt s.0 (length tables.initial)
is_point_of tables (Transition tr) = nat_lt tr.0 (length tables.sides)
is_point_of tables (Action a) = nat_lt a.0 (length tables.actions)

-- the plant has the program instance, and its chart the point
abbrev pub has_point : PlantData → ProgId → Point → Bool
has_point plant p point = nat_lt p.0 (length plant.instances) && is_point_of (tables_of (chart_of plant p)) point

-- ---- breakpoints, the one that was set first before the others

-- the place of the first one at this point; the list's first has place k
abbrev pub place_from : ℕ → ProgId → Point → List Breakpoint → Option ℕ
place_from k p point [] = None
place_from k p point (breakpoint ∷ set) = cond (is_at p point breakpoint) (Some k) (place_from (k + 1) p point set)

abbrev pub place_of : ProgId → Point → List Breakpoint → Option ℕ
place_of p point set = place_from 0 p point set

-- at this place of the list, else behind all others
abbrev pub put_at : Option ℕ → Breakpoint → List Breakpoint → List Breakpoint
put_at None breakpoint set = set ++ breakpoint ∷ []
put_at (Some k) breakpoint set = slice_set set k breakpoint

-- it takes the place of one at the same point
abbrev pub with_breakpoint : Breakpoint → List Breakpoint → List Breakpoint
with_breakpoint breakpoint set = put_at (place_of breakpoint.program breakpoint.point set) breakpoint set

abbrev pub without_place : Option ℕ → List Breakpoint → List Breakpoint
without_place None set = set
without_place (Some k) set = take k set ++ drop (suc k) set

-- none at this point
abbrev pub without : ProgId → Point → List Breakpoint → List Breakpoint
without p point set = without_place (place_of p point set) set

-- after an accepted command
abbrev pub points_after : Command → List Breakpoint → List Breakpoint
points_after (Break p point) set = with_breakpoint (record { program = p; point = point; condition = None }) set
points_after (BreakIf p point id) set = with_breakpoint (record { program = p; point = point; condition = Some id }) set
points_after (Unbreak p point) set = without p point set
points_after _ set = set
