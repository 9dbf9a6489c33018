pub mod BoxLaws
pub mod KeptLaws
pub mod KindLaws
pub mod MemberLaws
pub mod KeyLaws
pub mod Reading
pub mod WriteLaws
