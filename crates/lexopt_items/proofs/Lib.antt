pub mod ReadsItems
