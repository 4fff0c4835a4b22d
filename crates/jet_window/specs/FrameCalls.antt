-- The calls of a frame vertex, as its callers see them.
use Rattle.std.specs.Prelude.{◌≡◌, Bool, false, List, [], ◌∷◌, ◌++◌, Result}
use Rattle.jet_items.specs.declared.item.Item.{Item}
use Rattle.jet_items.specs.declared.no_memory.NoMemory.{NoMemory}
use Rattle.jet_boxes.specs.Calls.{Call, MayCall}
use Rattle.jet_boxes.specs.Entry.{CallEntry}
use Rattle.jet_boxes.specs.Held.{BoxView}
use Rattle.jet_window.specs.declared.frame.FrameP.{FrameP}
use Rattle.jet_window.specs.FrameStands.{FrameStands}
use Rattle.jet_window.specs.FrameView.{held_by}

-- what it stands for between two calls, and in the middle of a call for an entry
abbrev pub Stands : FrameP → List CallEntry → List Item → Type 0
Stands p taken given = FrameStands p.vertex p.times.policy.slide p.times.begun p.times.last (held_by p) taken taken given

abbrev pub Amid : FrameP → List CallEntry → CallEntry → List Item → Type 0
Amid p taken entry given = FrameStands p.vertex p.times.policy.slide p.times.begun p.times.last (held_by p) (taken ++ entry ∷ []) taken given

-- the same number, sizes and mark to begin with
abbrev pub Alike : FrameP → FrameP → Type 0
Alike p q = (q.vertex ≡ p.vertex) × (q.times.policy ≡ p.times.policy) × (q.times.begun ≡ p.times.begun)

-- what a call does: what a call of each processor does
abbrev pub FrameCall : FrameP → CallEntry → BoxView → Result Bool NoMemory → FrameP → BoxView → Type 0
FrameCall p entry before result q after = Call {S = FrameP} Stands Amid Alike false p entry before result q after

-- when a call may be made
abbrev pub FrameMayCall : FrameP → CallEntry → Type 0
FrameMayCall p entry = MayCall {S = FrameP} Amid (λ port queue. Unit {0}) p entry
