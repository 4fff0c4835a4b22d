-- A join as its callers see it: how it is set, what it stands for, and its calls.
use Rattle.std.specs.Prelude.{◌≡◌, Bool, false, List, Result}
use Rattle.jet_items.specs.Joins.{Joining}
use Rattle.jet_items.specs.declared.item.Item.{Item}
use Rattle.jet_items.specs.declared.no_memory.NoMemory.{NoMemory}
use Rattle.jet_boxes.specs.Calls.{Call, MayCall}
use Rattle.jet_boxes.specs.Entry.{CallEntry}
use Rattle.jet_boxes.specs.Held.{BoxView}
use Rattle.jet_join.specs.declared.join.JoinP.{JoinP}
use Rattle.jet_join.specs.Stands.{JoinStands, JoinAmid}

-- how a join is set
abbrev pub setting_of : JoinP → Joining
setting_of p = p.setting

-- what it stands for between two calls, and in the middle of a call for an entry
abbrev pub Stands : JoinP → List CallEntry → List Item → Type 0
Stands p taken given = JoinStands p.setting p.rows p.next taken given

abbrev pub Amid : JoinP → List CallEntry → CallEntry → List Item → Type 0
Amid p taken entry given = JoinAmid p.setting p.rows p.next taken entry given

-- what a call of a join does: what a call of each processor does
abbrev pub JoinCall : JoinP → CallEntry → BoxView → Result Bool NoMemory → JoinP → BoxView → Type 0
JoinCall p entry before result q after = Call {S = JoinP} Stands Amid (λ p q. setting_of q ≡ setting_of p) false p entry before result q after

-- when a call of a join may be made
abbrev pub JoinMayCall : JoinP → CallEntry → Type 0
JoinMayCall p entry = MayCall {S = JoinP} Amid (λ port queue. Unit {0}) p entry
