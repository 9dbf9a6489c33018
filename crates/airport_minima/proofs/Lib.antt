pub mod LowestLaws
mod FloorLaws
mod AlternateLaws
mod FlownLaws
mod RaisedLaws
mod DoubleWithin
mod RaisedWithin
mod RowLaws
