-- What is printed of a record that is accepted.
-- In order: view_text.
-- Assumes nothing.
use Rattle.std.specs.Prelude.{List, ℕ}
use Rattle.text.specs.Texts.{bytes}
use Rattle.table.specs.declared.Table.{Table}
use Rattle.view_show.specs.Shown.{show_text}
use Rattle.view_draw.specs.Drawn.{draw_text}
use Rattle.command_arguments.specs.declared.View.{View}
use Rattle.command_arguments.specs.declared.View.TheVariants.{Check, Show, Draw}

-- the text of a view of a table
abbrev pub view_text : View → Table → List ℕ
view_text Check t = bytes "accepted\n"
view_text Show t = show_text t
view_text Draw t = draw_text t
