pub mod SheetFile
pub mod SheetFileLaws
pub mod Examples
