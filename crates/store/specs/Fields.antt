-- What a store's fields say.
use Rattle.store.specs.declared.Store.TheInside.{Inside}
use Rattle.store.specs.Layout.{Layout, Inv}

abbrev pub fields : Inside → Layout
fields a = record { table = a.segments; half = a.half; hi = a.hi; low = a.low; total = a.total; hint = a.hint; moved = a.moved }

abbrev pub Kept : Inside → Type 0
Kept a = Inv a.segments a.half a.hi a.low a.total a.hint
