-- What the fields say.
use Rattle.segments.specs.declared.Segments.TheInside.{Inside}
use Rattle.segments.specs.Table.{Table}
use Rattle.segments.specs.Layout.{Good, table}

abbrev pub table_of : Inside → Table
table_of a = table a.words.now a.count

abbrev pub Kept : Inside → Type 0
Kept a = Good a.words.now a.count
