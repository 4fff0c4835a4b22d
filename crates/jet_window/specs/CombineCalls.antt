-- The calls of a combine vertex, as its callers see them.
use Rattle.std.specs.Prelude.{◌≡◌, Bool, false, List, Result}
use Rattle.jet_items.specs.declared.item.Item.{Item}
use Rattle.jet_items.specs.declared.no_memory.NoMemory.{NoMemory}
use Rattle.jet_boxes.specs.Calls.{Call, MayCall}
use Rattle.jet_boxes.specs.Entry.{CallEntry}
use Rattle.jet_boxes.specs.Held.{BoxView}
use Rattle.jet_window.specs.declared.combine.CombineP.{CombineP}
use Rattle.jet_window.specs.CombineStands.{CombineStands, CombineAmid}
use Rattle.jet_window.specs.CombineView.{combine_of, start_of}

-- what it stands for between two calls, and in the middle of a call for an entry
abbrev pub Stands : CombineP → List CallEntry → List Item → Type 0
Stands p taken given = CombineStands (start_of p) p.last (combine_of p) taken given

abbrev pub Amid : CombineP → List CallEntry → CallEntry → List Item → Type 0
Amid p taken entry given = CombineAmid (start_of p) p.last (combine_of p) taken entry given

-- the same number and sizes, begun with the same mark and frames
abbrev pub Alike : CombineP → CombineP → Type 0
Alike p q = (q.vertex ≡ p.vertex) × (q.policy ≡ p.policy) × (q.begun ≡ p.begun) × (q.start ≡ p.start)

-- what a call does: what a call of each processor does
abbrev pub CombineCall : CombineP → CallEntry → BoxView → Result Bool NoMemory → CombineP → BoxView → Type 0
CombineCall p entry before result q after = Call {S = CombineP} Stands Amid Alike false p entry before result q after

-- when a call may be made
abbrev pub CombineMayCall : CombineP → CallEntry → Type 0
CombineMayCall p entry = MayCall {S = CombineP} Amid (λ port queue. Unit {0}) p entry

-- it stands between two calls
abbrev pub StandsStill : CombineP → Type 0
StandsStill p = (taken : List CallEntry) × (given : List Item) × Stands p taken given
