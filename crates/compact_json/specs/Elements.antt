-- The JSON data of documents, elements and iterators.
use Rattle.serde_json.specs.Data.{Data, Items as DataItems, Members}
use Rattle.compact_json.specs.Kept.{data_of, items_of, members_of}
use Rattle.compact_json.specs.Keys.{past}
use Rattle.compact_json.specs.declared.document.Document.{Document}
use Rattle.compact_json.specs.declared.element.Element.{Element}
use Rattle.compact_json.specs.declared.items.Items.{Items}
use Rattle.compact_json.specs.declared.keys.Keys.{Keys}

-- the data of a document
abbrev pub data_in : Document → Data
data_in d = data_of d.bytes.items

-- the data of the box at which the element begins
abbrev pub data_at : Element → Data
data_at e = data_of e.bytes.now

-- the items that are left
abbrev pub items_left : Items → DataItems
items_left i = items_of i.bytes.now

-- the members whose keys are left
abbrev pub keys_left : Keys → Members
keys_left k = past k.started k.last.now (members_of k.members.now)
