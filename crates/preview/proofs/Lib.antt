-- What a preview comes to over a list.
pub mod ListLaws
