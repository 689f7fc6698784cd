mod Lists
mod Steps
mod Parts
mod RefusedDeques
